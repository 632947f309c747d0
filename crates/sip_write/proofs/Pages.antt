-- Texts that are put on a page.
use Rattle.std.proofs.Common.{◌≡◌, ℕ, List, [], ◌∷◌, ◌++◌, refl, sym, ap, subst, ◌∙◌, codes, Bool, true, false, cond, ◌+◌, ◌<◌, length, map, get_or, take, drop, ◌-◌, ◌≤◌, arith, append_assoc, append-nil}
use Rattle.std.proofs.lemmas.List.{take_more}
use Rattle.std.specs.Prelude.{Result, Ok, Err, IfOk}
use Rattle.sip_text.specs.declared.error.NoMemory.{NoMemory}
use Rattle.event_headers.specs.Written.{comma_joined}
use Rattle.std.proofs.Math.Seq.{take-length}
use Rattle.sip_write.specs.declared.page.Page.{Page}
use Rattle.sip_write.specs.Lines.{joined, line_end, header}
use Rattle.sip_write.specs.Pages.{Puts, next_texts}
use Rattle.sip_write.proofs.Joins.{joined-append}

-- nothing
pub nothing : {a : Page} → Puts a [] a
nothing {a} = record { put = []; behind = sym (append-nil a.bytes.items); whole = λ w. (w, refl) }

-- a text, and then another
pub and_then : {a b c : Page} {s t : List ℕ} → Puts a s b → Puts b t c → Puts a (s ++ t) c
and_then {a} {b} {c} {s} {t} h k = record {
  put = h.put ++ k.put;
  behind = k.behind ∙ ap (λ (x : List ℕ). x ++ k.put) h.behind ∙ append_assoc a.bytes.items h.put k.put;
  whole = λ w. (let e = k.whole w in let d = h.whole e.0 in (d.0, ap (λ (x : List ℕ). x ++ k.put) d.1 ∙ ap (λ (x : List ℕ). s ++ x) e.1));
}

-- a text that is the same
pub same : {a b : Page} {s t : List ℕ} → s ≡ t → Puts a s b → Puts a t b
same {a} {b} e h = subst (λ (x : List ℕ). Puts a x b) e h

-- a line
pub as_line : {a b : Page} (line : List ℕ) → Puts a (line ++ line_end) b → Puts a (joined (line ∷ [])) b
unfolding joined
as_line line h = h

-- a header line
pub as_header : {a b : Page} (name value : List ℕ) → Puts a ((name ++ codes ": ") ++ (value ++ line_end)) b → Puts a (joined (header name value ∷ [])) b
unfolding joined
as_header name value h = same (regroup name (codes ": ") value line_end) h where
  regroup : (n c v e : List ℕ) → (n ++ c) ++ (v ++ e) ≡ (n ++ (c ++ v)) ++ e
  regroup n c v e = simp append_assoc refl

-- lines, and then further lines
pub more_lines : {a b c : Page} (xs ys : List (List ℕ)) → Puts a (joined xs) b → Puts b (joined ys) c → Puts a (joined (xs ++ ys)) c
more_lines xs ys h k = same (sym (joined-append xs ys)) (and_then h k)

-- no line
pub no_line : {a : Page} → Puts a (joined []) a
unfolding joined
no_line = nothing

-- the bytes of a page that began empty and is whole
pub all_put : (r : Result (List ℕ) NoMemory) (a b : Page) (s : List ℕ) → a.bytes.items ≡ [] → Puts a s b
    → IfOk r (λ bytes. (b.is_whole ≡ true) × (bytes ≡ b.bytes.items)) → IfOk r (λ bytes. bytes ≡ s)
all_put (Ok bytes) a b s none h is = is.1 ∙ h.behind ∙ ap (λ (x : List ℕ). x ++ h.put) none ∙ (h.whole is.0).1
all_put (Err refusal) a b s none h is = tt

-- a refused growth puts nothing
pub refused : (ok : Bool) (a b x : List ℕ) → b ≡ cond ok (a ++ x) a → ok ≡ false → b ≡ a ++ []
refused ok a b x e none = e ∙ ap (λ (k : Bool). cond k (a ++ x) a) none ∙ sym (append-nil a)

-- ---- texts in a row

push : {X : Type 0} (f : X → List ℕ) (xs : List X) (y : X) → map f (xs ++ y ∷ []) ≡ map f xs ++ f y ∷ []
push f [] y = refl
push f (x ∷ xs) y = ap (λ zs. f x ∷ zs) (push f xs y)

-- one more of the lines that are made of values
pub one_more_line : {a b c : Page} (f : List ℕ → List ℕ) (xs : List (List ℕ)) (i : ℕ) (d v : List ℕ) → i < length xs → v ≡ get_or xs i d
    → Puts a (joined (map f (take i xs))) b → Puts b (joined (f v ∷ [])) c → Puts a (joined (map f (take (i + 1) xs))) c
one_more_line f xs i d v within is h k =
    same
    (ap (λ w. joined (map f (take i xs) ++ f w ∷ [])) is
    ∙ ap joined (sym (push f (take i xs) (get_or xs i d)))
    ∙ ap (λ ys. joined (map f ys)) (sym (take_more xs i d within)))
    (more_lines (map f (take i xs)) (f v ∷ []) h k)

next-push : (xs : List (List ℕ)) (y : List ℕ) → next_texts (xs ++ y ∷ []) ≡ next_texts xs ++ (codes ", " ++ y)
next-push [] y = ap (λ (t : List ℕ). codes ", " ++ t) (append-nil y)
next-push (x ∷ xs) y = ap (λ (t : List ℕ). codes ", " ++ (x ++ t)) (next-push xs y) ∙ ap (λ (t : List ℕ). codes ", " ++ t) (sym (append_assoc x (next_texts xs) (codes ", " ++ y)))

-- one more of the texts behind commas
pub one_more_text : {X : Type 0} {a b c : Page} (f : X → List ℕ) (xs : List X) (i : ℕ) (d : X) → i < length xs
    → Puts a (next_texts (map f (take i xs))) b → Puts b (codes ", " ++ f (get_or xs i d)) c → Puts a (next_texts (map f (take (i + 1) xs))) c
one_more_text f xs i d within h k =
    same
    (sym (next-push (map f (take i xs)) (f (get_or xs i d)))
    ∙ ap next_texts (sym (push f (take i xs) (get_or xs i d)))
    ∙ ap (λ ys. next_texts (map f ys)) (sym (take_more xs i d within)))
    (and_then h k)

-- the first text, and the others behind commas
pub comma_next : (text : List ℕ) (others : List (List ℕ)) → text ++ next_texts others ≡ comma_joined (text ∷ others)
unfolding comma_joined
comma_next text [] = append-nil text
comma_next text (next ∷ others) = ap (λ (t : List ℕ). text ++ (codes ", " ++ t)) (comma_next next others)

-- no text
pub none_joined : {X : Type 0} {a : Page} (f : X → List ℕ) (xs : List X) → length xs < 1 → Puts a (comma_joined (map f xs)) a
unfolding comma_joined
none_joined f [] h = nothing
none_joined f (x ∷ xs) h = absurd (omega arith)

-- some texts
pub some_joined : {X : Type 0} {a b c : Page} (f : X → List ℕ) (xs : List X) (d : X) → 1 ≤ length xs → Puts a (f (get_or xs 0 d)) b
    → Puts b (next_texts (map f (take (length xs - 1) (drop 1 xs)))) c → Puts a (comma_joined (map f xs)) c
some_joined f [] d h k l = absurd (omega arith)
some_joined f (x ∷ xs) d h k l =
    let others : take (length (x ∷ xs) - 1) (drop 1 (x ∷ xs)) ≡ xs = (let e : length (x ∷ xs) - 1 ≡ length xs = omega arith in rw e (take-length xs)) in
    same (ap (λ ys. f x ++ next_texts (map f ys)) others ∙ comma_next (f x) (map f xs)) (and_then k l)
