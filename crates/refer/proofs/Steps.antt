-- What a change of a transfer is answered with, by what the map has at its tag.
use Rattle.std.proofs.Common.{◌≡◌, ℕ, List, Option, None, Some, Bool, true, false, cond, refl, sym, ap, ◌∙◌, string_bytes, String, option_map, is_some, codes, ◌&&◌, ◌||◌}
use Rattle.std.specs.Prelude.{◌==◌}
use Rattle.std.specs.Str.{bytes_eq}
use Rattle.std.specs.Map.{lookup}
use Rattle.package.specs.declared.change.Outcome.{Outcome}
use Rattle.package.specs.declared.change.Outcome.TheVariants.{Changed, Same, Unknown}
use Rattle.package.specs.Values.{Progress}
use Rattle.package.specs.Content.{finite_maps, OfStatus, Contents, contents_of, held, with_held, without_held, is_final, SuitsPackage, refer_package}
use Rattle.package.specs.Changes.{begin_at, step_at, forget_at}
use Rattle.package.proofs.Held.{get_held}
use Rattle.refer.specs.declared.status.TransferStatus.{TransferStatus}
use Rattle.refer.specs.Transfers.{content_of}

module _ {Y : Type 0} (es : List (String Y × TransferStatus)) where
  abbrev contents : Contents
  contents = contents_of content_of es

  abbrev at : List ℕ → Option TransferStatus
  at q = lookup (λ k. bytes_eq q (string_bytes k)) es

  -- what is held of a text, by the look-up of a text that is the same
  held_at : (q tag : List ℕ) → q ≡ tag → (o : Option TransferStatus) → at q ≡ o → held contents tag ≡ option_map content_of o
  held_at q tag same o e = ap (held contents) (sym same) ∙ get_held content_of es q ∙ ap (option_map content_of) e

  pub begin_same : (q tag : List ℕ) → q ≡ tag → is_some (at q) ≡ true → (Same, contents) ≡ begin_at finite_maps contents tag (held contents tag)
  begin_same q tag same t = by (at q) refl t
    where
      by : (o : Option TransferStatus) → at q ≡ o → is_some o ≡ true → (Same, contents) ≡ begin_at finite_maps contents tag (held contents tag)
      by None e t = absurd (cc)
      by (Some s) e t = sym (ap (begin_at finite_maps contents tag) (held_at q tag same (Some s) e))

  -- an answer with the map that it leaves
  with_map : (outcome : Outcome) (m n : Contents) → m ≡ n → ◌≡◌ {A = Outcome × Contents} (outcome, m) (outcome, n)
  with_map outcome m n e = λ i. (outcome, e i)

  pub begin_new : (q tag : List ℕ) → q ≡ tag → is_some (at q) ≡ false → (m : Contents) → m ≡ with_held contents tag (OfStatus 100 (codes "Trying")) → (Changed, m) ≡ begin_at finite_maps contents tag (held contents tag)
  begin_new q tag same t m new = with_map Changed m _ new ∙ by (at q) refl t
    where
      by : (o : Option TransferStatus) → at q ≡ o → is_some o ≡ false → (Changed, with_held contents tag (OfStatus 100 (codes "Trying"))) ≡ begin_at finite_maps contents tag (held contents tag)
      by None e t = sym (ap (begin_at finite_maps contents tag) (held_at q tag same None e))
      by (Some s) e t = absurd (cc)

  pub step_unknown : (p : Progress) (q : List ℕ) → q ≡ p.tag → at q ≡ None → (Unknown, contents) ≡ step_at finite_maps contents p (held contents p.tag)
  step_unknown p q same e = sym (ap (step_at finite_maps contents p) (held_at q p.tag same None e))

  answer : Progress → Bool → Outcome × Contents
  answer p stays = cond stays (Same, contents) (Changed, with_held contents p.tag (OfStatus p.code p.reason))

  pub step_same : (p : Progress) (q : List ℕ) → q ≡ p.tag → (s : TransferStatus) → at q ≡ Some s → (is_final s.code || ((s.code == p.code) && bytes_eq s.reason p.reason)) ≡ true → (Same, contents) ≡ step_at finite_maps contents p (held contents p.tag)
  unfolding answer
  step_same p q same s e t = sym (ap (step_at finite_maps contents p) (held_at q p.tag same (Some s) e) ∙ ap (answer p) t)

  pub step_changed : (p : Progress) (q : List ℕ) → q ≡ p.tag → (s : TransferStatus) → at q ≡ Some s → (is_final s.code || ((s.code == p.code) && bytes_eq s.reason p.reason)) ≡ false → (m : Contents) → m ≡ with_held contents p.tag (OfStatus p.code p.reason) → (Changed, m) ≡ step_at finite_maps contents p (held contents p.tag)
  unfolding answer
  step_changed p q same s e t m new = with_map Changed m _ new ∙ sym (ap (step_at finite_maps contents p) (held_at q p.tag same (Some s) e) ∙ ap (answer p) t)

  pub forget_none : (q tag : List ℕ) → q ≡ tag → at q ≡ None → (m : Contents) → m ≡ contents → (Unknown, m) ≡ forget_at finite_maps contents tag (held contents tag)
  forget_none q tag same e m new = with_map Unknown m _ new ∙ sym (ap (forget_at finite_maps contents tag) (held_at q tag same None e))

  pub forget_some : (q tag : List ℕ) → q ≡ tag → (s : TransferStatus) → at q ≡ Some s → (m : Contents) → m ≡ without_held contents tag → (Changed, m) ≡ forget_at finite_maps contents tag (held contents tag)
  forget_some q tag same s e m new = with_map Changed m _ new ∙ sym (ap (forget_at finite_maps contents tag) (held_at q tag same (Some s) e))

-- statuses alone
pub suits_refer : (o : Option TransferStatus) → SuitsPackage refer_package (option_map content_of o)
suits_refer None = tt
suits_refer (Some s) = λ e. (cc)
