-- Values that are one address with its parameters.
use Rattle.std.proofs.Common.{◌≡◌, ℕ, ◌<◌, Bool, true, false, eqb, cond, List, [], ◌∷◌, ◌++◌, length, drop, Option, Some, None, refl, sym, ap, subst, ◌∙◌, append_assoc, arith, one-add, inl, inr}
use Rattle.std.specs.List.{list_all, prefix_len}
use Rattle.std.specs.Option.{is_some}
use Rattle.std.specs.Str.{IsUtf8}
use Rattle.std.proofs.lemmas.Bool.Decides.{nat_tests}
use Rattle.std.proofs.lemmas.List.{drop_at}
use Rattle.sip_text.specs.declared.scan.Class.TheVariants as class
use Rattle.sip_text.specs.Bytes.{is_in, is_letter}
use Rattle.sip_text.specs.Reading.{◌>>=◌, span_at, after_byte, after_spaces, begins, text_of, parameters_of, word_named}
use Rattle.sip_text.specs.Grammar.{Parameter, AllPassing, AreSpaces, Stops, AreParameters}
use Rattle.sip_read.specs.Addresses.{IsUri, IsAddress, IsParty, IsContact}
use Rattle.sip_read.specs.AddressesComputed.{has_scheme, bare_at, after_display, chosen, address_at, party_of, contact_of}
use Rattle.sip_text.proofs.Pieces.{bind_some, some_is, and_both, span_takes, span_again, spaces_taken, byte_taken, prefix_again, stops_at_spaces}
use Rattle.sip_read.proofs.Addresses.{scheme_takes, scheme_again, angle_takes, display_takes, angle_address_again, spaces_shown, uri_some}
use Rattle.sip_text.proofs.Utf8.{text_taken, text_again, text_from_ascii, uri_small, token_small}
use Rattle.sip_text.proofs.Lists.{parameters_take, parameters_again}
use Rattle.sip_text.proofs.Words.{named_takes, named_again}
use Rattle.sip_read.specs.declared.message.Party.{Party}
use Rattle.std.specs.Prelude.{codes}

-- what stands behind a bare uri
record Behind (rest : List ℕ) : Type 0 where
  bare : Stops (is_in class.Bare) rest
  no_angle : after_byte 60 (after_spaces (drop (prefix_len (is_in class.Display) rest) rest)) ≡ None

nothing : Behind []
nothing = record { bare = tt; no_angle = refl }

semicolon : (a more : List ℕ) → AreSpaces a → Behind (a ++ 59 ∷ more)
semicolon a more all = record {
  bare = stops_at_spaces (is_in class.Bare) (record { sp = refl; ht = refl }) a (59 ∷ more) all refl;
  no_angle = rw (prefix_again (is_in class.Display) a (59 ∷ more) (spaces_shown a all) refl, drop_at a (59 ∷ more) (length a) refl) refl;
}

group_behind : (text : List ℕ) (ps : List Parameter) → AreParameters text ps → Behind text
group_behind text [] h = subst Behind (sym h) nothing
group_behind text (p ∷ ps) h =
    let tail : List ℕ = (h.2.behind ++ (p.name ++ h.2.assigned)) ++ h.1 in
    let at : text ≡ h.2.before ++ 59 ∷ tail = h.4 ∙ ap (λ (l : List ℕ). l ++ h.1) h.2.whole ∙ append_assoc h.2.before (59 ∷ (h.2.behind ++ (p.name ++ h.2.assigned))) h.1 in
    subst Behind (sym at) (semicolon h.2.before tail h.2.spaces_before)

-- ---- an address

record TakesAddress (t uri r : List ℕ) : Type 0 where
  text : List ℕ
  is : IsAddress text uri
  whole : t ≡ text ++ r

address_takes : (t uri r : List ℕ) → address_at t ≡ Some (uri, r) → TakesAddress t uri r
unfolding address_at bare_at
address_takes t uri r e = step (after_display t >>= λ rest. after_byte 60 (after_spaces rest)) refl e where
  bare : (u q : List ℕ) → t ≡ u ++ q → AllPassing (is_in class.Bare) u → (b : Bool) → has_scheme u ≡ b → cond {A = Option (List ℕ × List ℕ)} b (Some (u, q)) None ≡ Some (uri, r) → TakesAddress t uri r
  bare u q whole all true good e = subst (λ (p : List ℕ × List ℕ). TakesAddress t p.0 p.1) (some_is (u, q) (uri, r) e) (record { text = u; is = inr (scheme_takes class.Bare u all good, refl); whole = whole })
  bare u q whole all false other e = absurd cc

  step : (o : Option (List ℕ)) → (after_display t >>= λ rest. after_byte 60 (after_spaces rest)) ≡ o → chosen t o ≡ Some (uri, r) → TakesAddress t uri r
  step (Some inner) is e =
      let b = bind_some (after_display t) (λ rest. after_byte 60 (after_spaces rest)) inner is in
      let k = display_takes t b.0 b.1 in
      let s = spaces_taken b.0 in
      let a = angle_takes inner uri r e in
      let parts : t ≡ (k.0 ++ (s.0 ++ 60 ∷ (uri ++ 62 ∷ []))) ++ r =
      k.2 ∙ ap (λ (l : List ℕ). k.0 ++ l) (s.2 ∙ ap (λ (l : List ℕ). s.0 ++ l) (byte_taken 60 (after_spaces b.0) inner b.2 ∙ ap (λ (l : List ℕ). 60 ∷ l) a.whole)) ∙ simp append_assoc in
      record { text = k.0 ++ (s.0 ++ 60 ∷ (uri ++ 62 ∷ [])); is = inl (k.0, s.0, k.1, s.1, a.is, refl); whole = parts }
  step None is e =
      let b = bind_some (span_at (is_in class.Bare) t) (λ u. cond {A = Option (List ℕ × List ℕ)} (has_scheme u.0) (Some u) None) (uri, r) e in
      let w = span_takes class.Bare t b.0.0 b.0.1 b.1 in
      bare b.0.0 b.0.1 w.0 w.1.0 (has_scheme b.0.0) refl b.2

bare_shown : (x : ℕ) → is_in class.Bare x ≡ true → is_in class.Display x ≡ true
bare_shown x e = grind (arith, nat_tests)

all_shown : (u : List ℕ) → AllPassing (is_in class.Bare) u → AllPassing (is_in class.Display) u
all_shown [] h = refl
all_shown (x ∷ u) h =
    let both = and_both (is_in class.Bare x) (list_all (is_in class.Bare) u) h in
    rw (bare_shown x both.0) (all_shown u both.1)

drop_more_display : (u r : List ℕ) → AllPassing (is_in class.Display) u → drop (prefix_len (is_in class.Display) (u ++ r)) (u ++ r) ≡ drop (prefix_len (is_in class.Display) r) r
drop_more_display [] r h = refl
drop_more_display (x ∷ u) r h =
    let both = and_both (is_in class.Display x) (list_all (is_in class.Display) u) h in
    rw (both.0, one-add) (drop_more_display u r both.1)

letter_plain : (x : ℕ) → is_letter x ≡ true → eqb x 34 ≡ false
letter_plain x e = grind (arith, nat_tests)

uri_not_quoted : (u r : List ℕ) → IsUri class.Bare u → begins 34 (u ++ r) ≡ false
uri_not_quoted u r h = ap (λ (l : List ℕ). begins 34 (l ++ r)) h.6 ∙ letter_plain h.0 h.3

address_again : (text uri rest : List ℕ) → IsAddress text uri → Behind rest → address_at (text ++ rest) ≡ Some (uri, rest)
unfolding address_at bare_at after_display
address_again text uri rest (inl h) f =
    let at : text ++ rest ≡ h.0 ++ (h.1 ++ 60 ∷ (uri ++ 62 ∷ rest)) = rw h.5 (simp append_assoc) in
    angle_address_again (text ++ rest) uri rest (h.0, h.1, h.2, h.3, h.4, at)
address_again text uri rest (inr h) f =
    let plain = uri_not_quoted uri rest h.0 in
    let none : (after_display (uri ++ rest) >>= λ d. after_byte 60 (after_spaces d)) ≡ None = rw (plain, drop_more_display uri rest (all_shown uri h.0.7)) f.no_angle in
    let one : address_at (uri ++ rest) ≡ bare_at (uri ++ rest) = ap (chosen (uri ++ rest)) none in
    let two : bare_at (uri ++ rest) ≡ Some (uri, rest) = rw (span_again (is_in class.Bare) uri rest h.0.7 (uri_some class.Bare uri h.0) f.bare, scheme_again class.Bare uri h.0) refl in
    ap (λ (l : List ℕ). address_at (l ++ rest)) h.1 ∙ one ∙ two

-- ---- an address and its parameters

bare_uri : (x : ℕ) → is_in class.Bare x ≡ true → x < 128
bare_uri x e = grind (arith, nat_tests)

uri_text : (text uri : List ℕ) → IsAddress text uri → IsUtf8 uri
uri_text text uri (inl h) = text_from_ascii (is_in class.Uri) uri_small uri h.4.7
uri_text text uri (inr h) = text_from_ascii (is_in class.Bare) bare_uri uri h.0.7

pub contact_takes : (t uri : List ℕ) → contact_of t ≡ Some uri → IsContact t uri
unfolding contact_of
contact_takes t uri e =
    let b = bind_some (address_at t) (λ a. parameters_of a.1 >>= λ ps. text_of a.0) uri e in
    let d = bind_some (parameters_of b.0.1) (λ ps. text_of b.0.0) uri b.2 in
    let a = address_takes t b.0.0 b.0.1 b.1 in
    let same : uri ≡ b.0.0 = (text_taken b.0.0 uri d.2).0 in
    record { address = a.text; behind = b.0.1; parameters = d.0; is_address = subst (IsAddress a.text) (sym same) a.is; are = parameters_take (length b.0.1) b.0.1 d.0 d.1; whole = a.whole }

pub contact_again : (t uri : List ℕ) → IsContact t uri → contact_of t ≡ Some uri
unfolding contact_of
contact_again t uri h =
    let one : address_at t ≡ Some (uri, h.behind) = ap address_at h.whole ∙ address_again h.address uri h.behind h.is_address (group_behind h.behind h.parameters h.are) in
    rw (one, parameters_again h.parameters h.behind (length h.behind) h.are (omega arith), text_again uri (uri_text h.address uri h.is_address)) refl

-- ---- From and To

abbrev party_from : Option (List ℕ) → List ℕ → Party
party_from tag text = record { text = text; tag = tag }

abbrev some_party : Party → Option Party
some_party p = Some p

pub party_takes : (v : List ℕ) (p : Party) → party_of v ≡ Some p → IsParty v p
unfolding party_of
party_takes v p e =
    let b = bind_some (address_at v) (λ a. parameters_of a.1 >>= λ ps. word_named (is_in class.Token) (codes "tag") ps >>= λ t. text_of v >>= λ x. some_party (party_from t x)) p e in
    let d = bind_some (parameters_of b.0.1) (λ ps. word_named (is_in class.Token) (codes "tag") ps >>= λ t. text_of v >>= λ x. some_party (party_from t x)) p b.2 in
    let f = bind_some (word_named (is_in class.Token) (codes "tag") d.0) (λ t. text_of v >>= λ x. some_party (party_from t x)) p d.2 in
    let g = bind_some (text_of v) (λ x. some_party (party_from f.0 x)) p f.2 in
    let a = address_takes v b.0.0 b.0.1 b.1 in
    subst (IsParty v) (some_is (party_from f.0 g.0) p g.2)
    (record {
      address = a.text;
      uri = b.0.0;
      behind = b.0.1;
      parameters = d.0;
      is_address = a.is;
      are = parameters_take (length b.0.1) b.0.1 d.0 d.1;
      tag = named_takes class.Token (codes "tag") d.0 f.0 f.1;
      same = (text_taken v g.0 g.1).0;
      whole = a.whole;
    })

pub party_again : (v : List ℕ) (p : Party) → IsUtf8 v → IsParty v p → party_of v ≡ Some p
unfolding party_of
party_again v p u h =
    let one : address_at v ≡ Some (h.uri, h.behind) = ap address_at h.whole ∙ address_again h.address h.uri h.behind h.is_address (group_behind h.behind h.parameters h.are) in
    rw (one, parameters_again h.parameters h.behind (length h.behind) h.are (omega arith), named_again class.Token token_small (codes "tag") h.parameters p.tag h.tag, text_again v u, ← h.same) refl

-- where parameters follow the address, or something else
pub contact_is : (t uri rest : List ℕ) → address_at t ≡ Some (uri, rest) → is_some (parameters_of rest) ≡ true → contact_of t ≡ text_of uri
unfolding contact_of
contact_is t uri rest at are = rw at (step (parameters_of rest) are) where
  step : (o : Option (List Parameter)) → is_some o ≡ true → (o >>= λ ps. text_of uri) ≡ text_of uri
  step None e = absurd cc
  step (Some ps) e = refl

pub no_contact : (t uri rest : List ℕ) → address_at t ≡ Some (uri, rest) → is_some (parameters_of rest) ≡ false → contact_of t ≡ None
unfolding contact_of
no_contact t uri rest at none = rw at (step (parameters_of rest) none) where
  step : (o : Option (List Parameter)) → is_some o ≡ false → (o >>= λ ps. text_of uri) ≡ None
  step None e = refl
  step (Some ps) e = absurd cc
