-- An address in angle brackets with its parameters, at the front of a text.
use Rattle.std.proofs.Common.{◌≡◌, ℕ, List, ◌∷◌, ◌++◌, length, Option, Some, None, refl, ap, subst, ◌∙◌, append_assoc, arith}
use Rattle.std.specs.Prelude.{◌⊎◌}
use Rattle.std.specs.Str.{IsUtf8}
use Rattle.std.proofs.lemmas.List.{length-append}
use Rattle.sip_text.specs.declared.scan.Class.TheVariants as class
use Rattle.sip_text.specs.Bytes.{is_in}
use Rattle.sip_text.specs.Reading.{◌>>=◌, after_byte, after_spaces, text_of, some_of}
use Rattle.sip_text.specs.Grammar.{AllPassing, AreSpaces, IsQuoted}
use Rattle.sip_read.specs.Addresses.{IsUri, IsRoute}
use Rattle.sip_read.specs.AddressesComputed.{after_display, angle_at, bracketed_at}
use Rattle.sip_read.specs.ViasComputed.{taken}
use Rattle.sip_read.specs.ItemsComputed.{route_at}
use Rattle.sip_text.proofs.Pieces.{bind_some, some_is, spaces_taken, byte_taken}
use Rattle.sip_read.proofs.Addresses.{angle_takes, angle_again, display_takes, display_again}
use Rattle.sip_text.proofs.Utf8.{text_taken, text_again}
use Rattle.sip_text.proofs.Groups.{group_takes, group_again, Ends}
use Rattle.sip_read.proofs.Hops.{taken_is}

bind_assoc : {A B C : Type 0} (o : Option A) (f : A → Option B) (g : B → Option C) → (o >>= λ x. f x >>= g) ≡ ((o >>= f) >>= g)
bind_assoc None f g = refl
bind_assoc (Some x) f g = refl

record TakesBracketed (t uri r : List ℕ) : Type 0 where
  display : List ℕ
  spaces : List ℕ
  is_display : IsQuoted display ⊎ AllPassing (is_in class.Display) display
  are_spaces : AreSpaces spaces
  is_uri : IsUri class.Uri uri
  whole : t ≡ display ++ (spaces ++ 60 ∷ (uri ++ 62 ∷ r))

bracketed_takes : (t uri r : List ℕ) → bracketed_at t ≡ Some (uri, r) → TakesBracketed t uri r
unfolding bracketed_at
bracketed_takes t uri r e =
    let b = bind_some (after_display t) (λ rest. after_byte 60 (after_spaces rest) >>= λ inner. angle_at inner) (uri, r) e in
    let d = bind_some (after_byte 60 (after_spaces b.0)) (λ inner. angle_at inner) (uri, r) b.2 in
    let k = display_takes t b.0 b.1 in
    let s = spaces_taken b.0 in
    let a = angle_takes d.0 uri r d.2 in
    record {
      display = k.0;
      spaces = s.0;
      is_display = k.1;
      are_spaces = s.1;
      is_uri = a.is;
      whole = k.2 ∙ ap (λ (l : List ℕ). k.0 ++ l) (s.2 ∙ ap (λ (l : List ℕ). s.0 ++ l) (byte_taken 60 (after_spaces b.0) d.0 d.1 ∙ ap (λ (l : List ℕ). 60 ∷ l) a.whole));
    }

pub record TakesRoute (t x r : List ℕ) : Type 0 where
  pub text : List ℕ
  pub is : IsRoute text
  pub same : x ≡ text
  pub whole : t ≡ text ++ r

pub route_takes : (t x r : List ℕ) → route_at t ≡ Some (x, r) → TakesRoute t x r
unfolding route_at
route_takes t x r e =
    let b = bind_some (bracketed_at t) (λ u. some_of u.1 >>= λ ps. text_of (taken t ps.1) >>= λ y. Some (y, ps.1)) (x, r) e in
    let d = bind_some (some_of b.0.1) (λ ps. text_of (taken t ps.1) >>= λ y. Some (y, ps.1)) (x, r) b.2 in
    let f = bind_some (text_of (taken t d.0.1)) (λ y. Some (y, d.0.1)) (x, r) d.2 in
    let k = bracketed_takes t b.0.0 b.0.1 b.1 in
    let q = group_takes (length b.0.1) b.0.1 d.0.0 d.0.1 d.1 in
    let text : List ℕ = k.display ++ (k.spaces ++ 60 ∷ (b.0.0 ++ 62 ∷ q.text)) in
    let parts : t ≡ text ++ d.0.1 = k.whole ∙ ap (λ (l : List ℕ). k.display ++ (k.spaces ++ 60 ∷ (b.0.0 ++ 62 ∷ l))) q.whole ∙ simp append_assoc in
    subst (λ (p : List ℕ × List ℕ). TakesRoute t p.0 p.1) (some_is (f.0, d.0.1) (x, r) f.2)
    (record {
      text = text;
      whole = parts;
      same = (text_taken (taken t d.0.1) f.0 f.1).0 ∙ taken_is t text d.0.1 parts;
      is = record { display = k.display; spaces = k.spaces; uri = b.0.0; behind = q.text; parameters = d.0.0; is_display = k.is_display; are_spaces = k.are_spaces; is_uri = k.is_uri; are = q.are; whole = refl };
    })

pub route_again : (text rest : List ℕ) → IsRoute text → IsUtf8 text → Ends rest → route_at (text ++ rest) ≡ Some (text, rest)
unfolding route_at bracketed_at
route_again text rest h u ends =
    let after : List ℕ = h.behind ++ rest in
    let at : text ++ rest ≡ h.display ++ (h.spaces ++ 60 ∷ (h.uri ++ 62 ∷ after)) = rw h.whole (simp append_assoc) in
    let one : bracketed_at (text ++ rest) ≡ Some (h.uri, after) =
    ap bracketed_at at ∙ bind_assoc (after_display (h.display ++ (h.spaces ++ 60 ∷ (h.uri ++ 62 ∷ after)))) (λ d. after_byte 60 (after_spaces d)) (λ inner. angle_at inner)
    ∙ ap (λ (o : Option (List ℕ)). o >>= λ inner. angle_at inner) (display_again h.display h.spaces (h.uri ++ 62 ∷ after) h.is_display h.are_spaces) ∙ angle_again h.uri after h.is_uri in
    let two : some_of after ≡ Some (h.parameters, rest) = group_again h.parameters h.behind rest (length after) h.are ends (omega (arith, length-append h.behind rest)) in
    rw (one, two, taken_is (text ++ rest) text rest refl, text_again text u) refl
