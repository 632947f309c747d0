-- Each form is read again.
use Rattle.std.proofs.Common.{◌≡◌, ℕ, zero, suc, ◌+◌, ◌<◌, ◌≤◌, ◌^◌, Bool, true, false, cond, List, [], ◌∷◌, ◌++◌, length, take, drop, Option, Some, None, refl, sym, ap, subst, ◌∙◌, arith, append_assoc, eqb}
use Rattle.std.specs.Prelude.{decimal, codes, nat_lt, nat_le}
use Rattle.std.specs.List.{flat_map, AllByRecursion}
use Rattle.std.specs.Str.{IsUtf8, is_utf8}
use Rattle.std.proofs.lemmas.List.{length-append, take-append-drop, take_at, drop_at, length-take-le}
use Rattle.std.proofs.lemmas.Str.{IsUtf8-from_is_utf8, is_utf8-from_IsUtf8}
use Rattle.std.proofs.lemmas.Bool.Decides.{nat_tests}
use Rattle.std.proofs.lemmas.Bool.{eqb-true}
use Rattle.sip_text.specs.declared.address.Addr.{Addr}
use Rattle.sip_text.specs.Addresses.{addr_text, IsAddr}
use Rattle.sip_text.specs.Reading.{◌>>=◌, cut_at, text_of, plain_number, plain_up_to, addr_of}
use Rattle.sip_text.proofs.Cuts.{test_some, cut_takes, cut_again}
use Rattle.sip_text.proofs.Pieces.{bind_some, some_is}
use Rattle.sip_text.proofs.PlainNumbers.{number_takes, number_again, up_to_takes, up_to_again}
use Rattle.sip_text.proofs.Addresses.{addr_takes, addr_again, addr_lacks, decimal_lacks}
use Rattle.snapshots.specs.Forms.{number_text, number_at, count_at, short_at, IsNumber, IsCount, IsShort, bytes_text, taken_at, bytes_at, text_at, AreBytes, IsText, address_text, address_at, option_text, option_at, IsOption, both_at, made_at, list_text, times_at, list_at, AreAll, IsForm}

-- ---- numbers

number_form_again : (n : ℕ) (rest : List ℕ) → IsNumber n → number_at (number_text n ++ rest) ≡ Some (n, rest)
unfolding number_at
number_form_again n rest small =
    let whole : number_text n ++ rest ≡ decimal n ++ 32 ∷ rest = append_assoc (decimal n) (codes " ") rest in
    ap number_at whole ∙ rw (cut_again 32 (decimal n) rest (decimal_lacks 32 n refl small), number_again n small) refl

number_form_takes : (t : List ℕ) (n : ℕ) (rest : List ℕ) → number_at t ≡ Some (n, rest) → (t ≡ number_text n ++ rest) × IsNumber n
unfolding number_at
number_form_takes t n rest e =
    let a = bind_some (cut_at 32 t) (λ p. plain_number p.0 >>= λ m. Some (m, p.1)) (n, rest) e in
    let b = bind_some (plain_number a.0.0) (λ m. Some (m, a.0.1)) (n, rest) a.2 in
    let pair = some_is (b.0, a.0.1) (n, rest) b.2 in
    let n-is : b.0 ≡ n = ap (λ (p : ℕ × List ℕ). p.0) pair in
    let r-is : a.0.1 ≡ rest = ap (λ (p : ℕ × List ℕ). p.1) pair in
    let c = cut_takes 32 t a.0.0 a.0.1 a.1 in
    let d = number_takes a.0.0 b.0 b.1 in
    (c.0 ∙ ap (λ (l : List ℕ). l ++ 32 ∷ a.0.1) d.0 ∙ ap (λ (m : ℕ). decimal m ++ 32 ∷ a.0.1) n-is ∙ ap (λ (l : List ℕ). decimal n ++ 32 ∷ l) r-is ∙ sym (append_assoc (decimal n) (codes " ") rest), rw (← n-is) d.1)

pub number_form : IsForm number_text IsNumber number_at
number_form = record { again = number_form_again; takes = number_form_takes }

count_form_again : (n : ℕ) (rest : List ℕ) → IsCount n → count_at (number_text n ++ rest) ≡ Some (n, rest)
unfolding count_at
count_form_again n rest small =
    let whole : number_text n ++ rest ≡ decimal n ++ 32 ∷ rest = append_assoc (decimal n) (codes " ") rest in
    ap count_at whole ∙ rw (cut_again 32 (decimal n) rest (decimal_lacks 32 n refl (omega (arith, small))), up_to_again 4294967295 n small (omega arith)) refl

count_form_takes : (t : List ℕ) (n : ℕ) (rest : List ℕ) → count_at t ≡ Some (n, rest) → (t ≡ number_text n ++ rest) × IsCount n
unfolding count_at
count_form_takes t n rest e =
    let a = bind_some (cut_at 32 t) (λ p. plain_up_to 4294967295 p.0 >>= λ m. Some (m, p.1)) (n, rest) e in
    let b = bind_some (plain_up_to 4294967295 a.0.0) (λ m. Some (m, a.0.1)) (n, rest) a.2 in
    let pair = some_is (b.0, a.0.1) (n, rest) b.2 in
    let n-is : b.0 ≡ n = ap (λ (p : ℕ × List ℕ). p.0) pair in
    let r-is : a.0.1 ≡ rest = ap (λ (p : ℕ × List ℕ). p.1) pair in
    let c = cut_takes 32 t a.0.0 a.0.1 a.1 in
    let d = up_to_takes 4294967295 a.0.0 b.0 b.1 in
    (c.0 ∙ ap (λ (l : List ℕ). l ++ 32 ∷ a.0.1) d.0 ∙ ap (λ (m : ℕ). decimal m ++ 32 ∷ a.0.1) n-is ∙ ap (λ (l : List ℕ). decimal n ++ 32 ∷ l) r-is ∙ sym (append_assoc (decimal n) (codes " ") rest), rw (← n-is) d.2)

pub count_form : IsForm number_text IsCount count_at
count_form = record { again = count_form_again; takes = count_form_takes }

short_form_again : (n : ℕ) (rest : List ℕ) → IsShort n → short_at (number_text n ++ rest) ≡ Some (n, rest)
unfolding short_at
short_form_again n rest small =
    let whole : number_text n ++ rest ≡ decimal n ++ 32 ∷ rest = append_assoc (decimal n) (codes " ") rest in
    ap short_at whole ∙ rw (cut_again 32 (decimal n) rest (decimal_lacks 32 n refl (omega (arith, small))), up_to_again 65535 n small (omega arith)) refl

short_form_takes : (t : List ℕ) (n : ℕ) (rest : List ℕ) → short_at t ≡ Some (n, rest) → (t ≡ number_text n ++ rest) × IsShort n
unfolding short_at
short_form_takes t n rest e =
    let a = bind_some (cut_at 32 t) (λ p. plain_up_to 65535 p.0 >>= λ m. Some (m, p.1)) (n, rest) e in
    let b = bind_some (plain_up_to 65535 a.0.0) (λ m. Some (m, a.0.1)) (n, rest) a.2 in
    let pair = some_is (b.0, a.0.1) (n, rest) b.2 in
    let n-is : b.0 ≡ n = ap (λ (p : ℕ × List ℕ). p.0) pair in
    let r-is : a.0.1 ≡ rest = ap (λ (p : ℕ × List ℕ). p.1) pair in
    let c = cut_takes 32 t a.0.0 a.0.1 a.1 in
    let d = up_to_takes 65535 a.0.0 b.0 b.1 in
    (c.0 ∙ ap (λ (l : List ℕ). l ++ 32 ∷ a.0.1) d.0 ∙ ap (λ (m : ℕ). decimal m ++ 32 ∷ a.0.1) n-is ∙ ap (λ (l : List ℕ). decimal n ++ 32 ∷ l) r-is ∙ sym (append_assoc (decimal n) (codes " ") rest), rw (← n-is) d.2)

pub short_form : IsForm number_text IsShort short_at
short_form = record { again = short_form_again; takes = short_form_takes }

-- ---- bytes and texts

taken_again : (w rest : List ℕ) → taken_at (length w) (w ++ rest) ≡ Some (w, rest)
unfolding taken_at
taken_again w rest =
    let long : nat_lt (length (w ++ rest)) (length w) ≡ false = (let k = length-append w rest in grind (arith, nat_tests)) in
    rw (long, take_at w rest (length w) refl, drop_at w rest (length w) refl) refl

taken_takes : (n : ℕ) (t w rest : List ℕ) → taken_at n t ≡ Some (w, rest) → (t ≡ w ++ rest) × (length w ≡ n)
unfolding taken_at
taken_takes n t w rest e = step (nat_lt (length t) n) refl e where
  step : (b : Bool) → nat_lt (length t) n ≡ b → cond {A = Option (List ℕ × List ℕ)} b None (Some (take n t, drop n t)) ≡ Some (w, rest) → (t ≡ w ++ rest) × (length w ≡ n)
  step true short e = absurd cc
  step false long e =
      let pair = some_is (take n t, drop n t) (w, rest) e in
      let w-is : take n t ≡ w = ap (λ (q : List ℕ × List ℕ). q.0) pair in
      let r-is : drop n t ≡ rest = ap (λ (q : List ℕ × List ℕ). q.1) pair in
      let le : n ≤ length t = grind (arith, nat_tests) in
      (sym (take-append-drop n t) ∙ ap (λ (l : List ℕ). l ++ drop n t) w-is ∙ ap (λ (l : List ℕ). w ++ l) r-is, ap length (sym w-is) ∙ length-take-le n t le)

bytes_form_again : (w rest : List ℕ) → AreBytes w → bytes_at (bytes_text w ++ rest) ≡ Some (w, rest)
unfolding bytes_at
bytes_form_again w rest h =
    let whole : bytes_text w ++ rest ≡ number_text (length w) ++ (w ++ rest) = append_assoc (number_text (length w)) w rest in
    ap bytes_at whole ∙ rw (number_form_again (length w) (w ++ rest) h) (taken_again w rest)

bytes_form_takes : (t w rest : List ℕ) → bytes_at t ≡ Some (w, rest) → (t ≡ bytes_text w ++ rest) × AreBytes w
unfolding bytes_at
bytes_form_takes t w rest e =
    let a = bind_some (number_at t) (λ n. taken_at n.0 n.1) (w, rest) e in
    let c = number_form_takes t a.0.0 a.0.1 a.1 in
    let d = taken_takes a.0.0 a.0.1 w rest a.2 in
    (c.0 ∙ ap (λ (l : List ℕ). number_text a.0.0 ++ l) d.0 ∙ ap (λ (m : ℕ). number_text m ++ (w ++ rest)) (sym d.1) ∙ sym (append_assoc (number_text (length w)) w rest), rw d.1 c.1)

pub bytes_form : IsForm bytes_text AreBytes bytes_at
bytes_form = record { again = bytes_form_again; takes = bytes_form_takes }

text_taken : (t w : List ℕ) → text_of t ≡ Some w → (t ≡ w) × IsUtf8 w
text_taken t w e = let k = test_some (is_utf8 t) t w e in (k.1, rw (← k.1) (IsUtf8-from_is_utf8 t k.0))

text_again : (t : List ℕ) → IsUtf8 t → text_of t ≡ Some t
text_again t u = rw (is_utf8-from_IsUtf8 t u) refl

text_form_again : (w rest : List ℕ) → IsText w → text_at (bytes_text w ++ rest) ≡ Some (w, rest)
unfolding text_at
text_form_again w rest h = rw (bytes_form_again w rest h.0, text_again w h.1) refl

text_form_takes : (t w rest : List ℕ) → text_at t ≡ Some (w, rest) → (t ≡ bytes_text w ++ rest) × IsText w
unfolding text_at
text_form_takes t w rest e =
    let a = bind_some (bytes_at t) (λ p. text_of p.0 >>= λ x. Some (x, p.1)) (w, rest) e in
    let b = bind_some (text_of a.0.0) (λ x. Some (x, a.0.1)) (w, rest) a.2 in
    let pair = some_is (b.0, a.0.1) (w, rest) b.2 in
    let w-is : b.0 ≡ w = ap (λ (p : List ℕ × List ℕ). p.0) pair in
    let r-is : a.0.1 ≡ rest = ap (λ (p : List ℕ × List ℕ). p.1) pair in
    let c = bytes_form_takes t a.0.0 a.0.1 a.1 in
    let d = text_taken a.0.0 b.0 b.1 in
    let same : a.0.0 ≡ w = d.0 ∙ w-is in
    (c.0 ∙ ap (λ (l : List ℕ). bytes_text l ++ a.0.1) same ∙ ap (λ (l : List ℕ). bytes_text w ++ l) r-is, (rw same at c.1, rw w-is at d.1))

pub text_form : IsForm bytes_text IsText text_at
text_form = record { again = text_form_again; takes = text_form_takes }

-- ---- addresses

address_form_again : (a : Addr) (rest : List ℕ) → IsAddr a → address_at (address_text a ++ rest) ≡ Some (a, rest)
unfolding address_at
address_form_again a rest h =
    let whole : address_text a ++ rest ≡ addr_text a ++ 32 ∷ rest = append_assoc (addr_text a) (codes " ") rest in
    ap address_at whole ∙ rw (cut_again 32 (addr_text a) rest (addr_lacks 32 a refl refl refl h), addr_again a h) refl

address_form_takes : (t : List ℕ) (a : Addr) (rest : List ℕ) → address_at t ≡ Some (a, rest) → (t ≡ address_text a ++ rest) × IsAddr a
unfolding address_at
address_form_takes t a rest e =
    let p = bind_some (cut_at 32 t) (λ p. addr_of p.0 >>= λ m. Some (m, p.1)) (a, rest) e in
    let q = bind_some (addr_of p.0.0) (λ m. Some (m, p.0.1)) (a, rest) p.2 in
    let pair = some_is (q.0, p.0.1) (a, rest) q.2 in
    let a-is : q.0 ≡ a = ap (λ (p : Addr × List ℕ). p.0) pair in
    let r-is : p.0.1 ≡ rest = ap (λ (p : Addr × List ℕ). p.1) pair in
    let c = cut_takes 32 t p.0.0 p.0.1 p.1 in
    let d = addr_takes p.0.0 q.0 q.1 in
    (c.0 ∙ ap (λ (l : List ℕ). l ++ 32 ∷ p.0.1) d.0 ∙ ap (λ (m : Addr). addr_text m ++ 32 ∷ p.0.1) a-is ∙ ap (λ (l : List ℕ). addr_text a ++ 32 ∷ l) r-is ∙ sym (append_assoc (addr_text a) (codes " ") rest), subst IsAddr a-is d.1)

pub address_form : IsForm address_text IsAddr address_at
address_form = record { again = address_form_again; takes = address_form_takes }

-- ---- a text that may be absent

abbrev as_present : List ℕ × List ℕ → Option (Option (List ℕ) × List ℕ)
as_present p = Some (Some p.0, p.1)

abbrev present : Option (List ℕ × List ℕ) → Option (Option (List ℕ) × List ℕ)
present o = o >>= as_present

option_form_again : (o : Option (List ℕ)) (rest : List ℕ) → IsOption o → option_at (option_text o ++ rest) ≡ Some (o, rest)
unfolding option_at
option_form_again None rest h = refl
option_form_again (Some w) rest h = rw (text_form_again w rest h) refl

option_form_takes : (t : List ℕ) (o : Option (List ℕ)) (rest : List ℕ) → option_at t ≡ Some (o, rest) → (t ≡ option_text o ++ rest) × IsOption o
unfolding option_at
option_form_takes [] o rest e = absurd cc
option_form_takes (x ∷ xs) o rest e = step (eqb x 45) refl e where
  plus : (b : Bool) → eqb x 43 ≡ b → cond b (present (text_at xs)) None ≡ Some (o, rest) → (x ∷ xs ≡ option_text o ++ rest) × IsOption o
  plus false other e = absurd cc
  plus true is e =
      let a = bind_some (text_at xs) as_present (o, rest) e in
      let pair = some_is (Some a.0.0, a.0.1) (o, rest) a.2 in
      let c = text_form_takes xs a.0.0 a.0.1 a.1 in
      let whole : x ∷ xs ≡ option_text (Some a.0.0) ++ a.0.1 = ap (λ (y : ℕ). y ∷ xs) (eqb-true x 43 is) ∙ ap (λ (l : List ℕ). 43 ∷ l) c.0 in
      subst (λ (z : Option (List ℕ) × List ℕ). (x ∷ xs ≡ option_text z.0 ++ z.1) × IsOption z.0) pair (whole, c.1)

  step : (b : Bool) → eqb x 45 ≡ b → cond b (Some (None, xs)) (cond (eqb x 43) (present (text_at xs)) None) ≡ Some (o, rest) → (x ∷ xs ≡ option_text o ++ rest) × IsOption o
  step true is e =
      let whole : x ∷ xs ≡ option_text None ++ xs = ap (λ (y : ℕ). y ∷ xs) (eqb-true x 45 is) in
      subst (λ (z : Option (List ℕ) × List ℕ). (x ∷ xs ≡ option_text z.0 ++ z.1) × IsOption z.0) (some_is (None, xs) (o, rest) e) (whole, tt)
  step false other e = plus (eqb x 43) refl e

pub option_form : IsForm option_text IsOption option_at
option_form = record { again = option_form_again; takes = option_form_takes }

-- ---- one after the other

abbrev pub two_texts : {A B : Type 0} → (A → List ℕ) → (B → List ℕ) → A × B → List ℕ
two_texts f_text g_text p = f_text p.0 ++ g_text p.1

abbrev pub AreBoth : {A B : Type 0} → (A → Type 0) → (B → Type 0) → A × B → Type 0
AreBoth F G p = F p.0 × G p.1

module _ {A B : Type 0} {f_text : A → List ℕ} {F : A → Type 0} {f : List ℕ → Option (A × List ℕ)} {g_text : B → List ℕ} {G : B → Type 0} {g : List ℕ → Option (B × List ℕ)} where
  pub both_form : IsForm f_text F f → IsForm g_text G g → IsForm (two_texts f_text g_text) (AreBoth F G) (both_at f g)
  both_form ff gg = record { again = again; takes = takes } where
    again : (p : A × B) (rest : List ℕ) → AreBoth F G p → both_at f g (two_texts f_text g_text p ++ rest) ≡ Some (p, rest)
    again p rest h =
        let whole : two_texts f_text g_text p ++ rest ≡ f_text p.0 ++ (g_text p.1 ++ rest) = append_assoc (f_text p.0) (g_text p.1) rest in
        ap (both_at f g) whole ∙ rw (ff.again p.0 (g_text p.1 ++ rest) h.0, gg.again p.1 rest h.1) refl

    takes : (t : List ℕ) (p : A × B) (rest : List ℕ) → both_at f g t ≡ Some (p, rest) → (t ≡ two_texts f_text g_text p ++ rest) × AreBoth F G p
    takes t p rest e =
        let a = bind_some (f t) (λ x. g x.1 >>= λ y. Some ((x.0, y.0), y.1)) (p, rest) e in
        let b = bind_some (g a.0.1) (λ y. Some ((a.0.0, y.0), y.1)) (p, rest) a.2 in
        let c = ff.takes t a.0.0 a.0.1 a.1 in
        let d = gg.takes a.0.1 b.0.0 b.0.1 b.1 in
        let whole : t ≡ two_texts f_text g_text (a.0.0, b.0.0) ++ b.0.1 = c.0 ∙ ap (λ (l : List ℕ). f_text a.0.0 ++ l) d.0 ∙ sym (append_assoc (f_text a.0.0) (g_text b.0.0) b.0.1) in
        subst (λ (z : (A × B) × List ℕ). (t ≡ two_texts f_text g_text z.0 ++ z.1) × AreBoth F G z.0) (some_is ((a.0.0, b.0.0), b.0.1) (p, rest) b.2) (whole, (c.1, d.1))

-- what is made of the parts, and the parts of it
pub record IsMade {A B : Type 0} (make : A → Option B) (parts : B → A) (Holds : B → Type 0) : Type 0 where
  pub made : (a : A) (b : B) → make a ≡ Some b → (parts b ≡ a) × Holds b
  pub again : (b : B) → Holds b → make (parts b) ≡ Some b

abbrev pub IsOfParts : {A B : Type 0} → (B → A) → (B → Type 0) → (A → Type 0) → B → Type 0
IsOfParts parts Holds F b = F (parts b) × Holds b

module _ {A B : Type 0} {make : A → Option B} {parts : B → A} {Holds : B → Type 0} {f_text : A → List ℕ} {F : A → Type 0} {f : List ℕ → Option (A × List ℕ)} where
  pub made_form : IsMade make parts Holds → IsForm f_text F f → IsForm (λ b. f_text (parts b)) (IsOfParts parts Holds F) (made_at make f)
  made_form is ff = record { again = again; takes = takes } where
    again : (b : B) (rest : List ℕ) → IsOfParts parts Holds F b → made_at make f (f_text (parts b) ++ rest) ≡ Some (b, rest)
    again b rest h = rw (ff.again (parts b) rest h.0, is.again b h.1) refl

    takes : (t : List ℕ) (b : B) (rest : List ℕ) → made_at make f t ≡ Some (b, rest) → (t ≡ f_text (parts b) ++ rest) × IsOfParts parts Holds F b
    takes t b rest e =
        let p = bind_some (f t) (λ x. make x.0 >>= λ y. Some (y, x.1)) (b, rest) e in
        let q = bind_some (make p.0.0) (λ y. Some (y, p.0.1)) (b, rest) p.2 in
        let c = ff.takes t p.0.0 p.0.1 p.1 in
        let d = is.made p.0.0 q.0 q.1 in
        let whole : t ≡ f_text (parts q.0) ++ p.0.1 = c.0 ∙ ap (λ (a : A). f_text a ++ p.0.1) (sym d.0) in
        subst (λ (z : B × List ℕ). (t ≡ f_text (parts z.0) ++ z.1) × IsOfParts parts Holds F z.0) (some_is (q.0, p.0.1) (b, rest) q.2) (whole, (subst F (sym d.0) c.1, d.1))

-- a form under another condition that comes to the same
pub form_under : {A : Type 0} (text : A → List ℕ) (F G : A → Type 0) (at : List ℕ → Option (A × List ℕ)) → ((a : A) → F a → G a) → ((a : A) → G a → F a) → IsForm text F at → IsForm text G at
form_under text F G at to from form = record {
  again = λ a rest h. form.again a rest (from a h);
  takes = λ t a rest e. (let k = form.takes t a rest e in (k.0, to a k.1));
}

-- a form under another text that comes to the same
pub form_as : {A : Type 0} (text other : A → List ℕ) (F : A → Type 0) (at : List ℕ → Option (A × List ℕ)) → ((a : A) → text a ≡ other a) → IsForm text F at → IsForm other F at
form_as text other F at same form = record {
  again = λ a rest h. ap (λ (l : List ℕ). at (l ++ rest)) (sym (same a)) ∙ form.again a rest h;
  takes = λ t a rest e. (let k = form.takes t a rest e in (k.0 ∙ ap (λ (l : List ℕ). l ++ rest) (same a), k.1));
}

-- ---- lists

module _ {A : Type 0} (text : A → List ℕ) (Is : A → Type 0) (f : List ℕ → Option (A × List ℕ)) (form : IsForm text Is f) where
  times_again : (xs : List A) (rest : List ℕ) → AllByRecursion Is xs → times_at f (length xs) (flat_map text xs ++ rest) ≡ Some (xs, rest)
  unfolding times_at
  times_again [] rest h = refl
  times_again (x ∷ xs) rest h =
      let whole : flat_map text (x ∷ xs) ++ rest ≡ text x ++ (flat_map text xs ++ rest) = append_assoc (text x) (flat_map text xs) rest in
      rw (whole, form.again x (flat_map text xs ++ rest) h.0, times_again xs rest h.1) refl

  times_takes : (n : ℕ) (t : List ℕ) (xs : List A) (rest : List ℕ) → times_at f n t ≡ Some (xs, rest) → (t ≡ flat_map text xs ++ rest) × (length xs ≡ n) × AllByRecursion Is xs
  unfolding times_at
  times_takes zero t xs rest e =
      subst (λ (z : List A × List ℕ). (t ≡ flat_map text z.0 ++ z.1) × (length z.0 ≡ 0) × AllByRecursion Is z.0) (some_is ([], t) (xs, rest) e) (refl, refl, tt)
  times_takes (suc n) t xs rest e =
      let a = bind_some (f t) (λ x. times_at f n x.1 >>= λ y. Some (x.0 ∷ y.0, y.1)) (xs, rest) e in
      let b = bind_some (times_at f n a.0.1) (λ y. Some (a.0.0 ∷ y.0, y.1)) (xs, rest) a.2 in
      let c = form.takes t a.0.0 a.0.1 a.1 in
      let d = times_takes n a.0.1 b.0.0 b.0.1 b.1 in
      let whole : t ≡ flat_map text (a.0.0 ∷ b.0.0) ++ b.0.1 = c.0 ∙ ap (λ (l : List ℕ). text a.0.0 ++ l) d.0 ∙ sym (append_assoc (text a.0.0) (flat_map text b.0.0) b.0.1) in
      let count : length (a.0.0 ∷ b.0.0) ≡ suc n = ap suc d.1 in
      subst (λ (z : List A × List ℕ). (t ≡ flat_map text z.0 ++ z.1) × (length z.0 ≡ suc n) × AllByRecursion Is z.0) (some_is (a.0.0 ∷ b.0.0, b.0.1) (xs, rest) b.2) (whole, count, (c.1, d.2))

  list_again : (xs : List A) (rest : List ℕ) → AreAll Is xs → list_at f (list_text text xs ++ rest) ≡ Some (xs, rest)
  unfolding list_at
  list_again xs rest h =
      let whole : list_text text xs ++ rest ≡ number_text (length xs) ++ (flat_map text xs ++ rest) = append_assoc (number_text (length xs)) (flat_map text xs) rest in
      ap (list_at f) whole ∙ rw (number_form_again (length xs) (flat_map text xs ++ rest) h.0) (times_again xs rest h.1)

  list_takes : (t : List ℕ) (xs : List A) (rest : List ℕ) → list_at f t ≡ Some (xs, rest) → (t ≡ list_text text xs ++ rest) × AreAll Is xs
  unfolding list_at
  list_takes t xs rest e =
      let a = bind_some (number_at t) (λ n. times_at f n.0 n.1) (xs, rest) e in
      let c = number_form_takes t a.0.0 a.0.1 a.1 in
      let d = times_takes a.0.0 a.0.1 xs rest a.2 in
      (c.0 ∙ ap (λ (l : List ℕ). number_text a.0.0 ++ l) d.0 ∙ ap (λ (m : ℕ). number_text m ++ (flat_map text xs ++ rest)) (sym d.1) ∙ sym (append_assoc (number_text (length xs)) (flat_map text xs) rest), (rw d.1 c.1, d.2))

  pub list_form : IsForm (list_text text) (AreAll Is) (list_at f)
  list_form = record { again = list_again; takes = list_takes }
