-- The rows of live subscriptions after what the thread that sends did.
use Rattle.std.proofs.Common.{◌≡◌, ◌⊎◌, ℕ, Bool, true, false, nat_lt, List, [], ◌∷◌, ◌++◌, map, length, Option, Some, refl, sym, subst, inl, inr}
use Rattle.std.proofs.lemmas.List.{map-append}
use Rattle.notifier_model.specs.declared.event.Note.{Note as KnownNote}
use Rattle.notifier_model.specs.declared.event.Out.{Out}
use Rattle.transport.specs.declared.datagram.Datagram.{Datagram}
use Rattle.watchers.specs.Rows.{Row, begins, after_notify, after_retarget, without, answered_rows}
use Rattle.sip_text.specs.declared.address.Addr.{Addr}
use Rattle.notifier_model.specs.declared.event.Out.TheVariants as out
use Rattle.service.specs.declared.post.Note.{Note}
use Rattle.service.specs.Sending.{Act, Repeated, GaveUp, Gone, noting}
use Rattle.service.specs.Watched.{known_from, has_contact, IsRetargeted, MayRetarget, HasContact, IsFull, IsTold, IsSeen, AreRowed, is_of_dialog}

-- two parts of what it did
pub rowed_more : (a b : List Act) (rows mid rows' : List Row) → AreRowed a rows mid → AreRowed b mid rows' → AreRowed (a ++ b) rows rows'
rowed_more [] b rows mid rows' first then =
    let P : List Row → Type 0 = λ r. AreRowed b r rows' in subst P first then
rowed_more (act ∷ a) b rows mid rows' first then = (first.0, first.1, rowed_more a b first.0 mid rows' first.2 then)

-- one more note is taken, of an answer of its dialog
pub rowed_note : (notes : List Note) (n : Note) (rows mid rows' : List Row) → AreRowed (map noting notes) rows mid → is_of_dialog n.tag n.call_id mid ≡ true
    → rows' ≡ answered_rows n.tag n.number n.status mid → AreRowed (map noting (notes ++ n ∷ [])) rows rows'
rowed_note notes n rows mid rows' was of_dialog is =
    let P : List Act → Type 0 = λ acts. AreRowed acts rows rows' in
    subst P (sym (map-append noting notes (n ∷ []))) (rowed_more (map noting notes) (noting n ∷ []) rows mid rows' was (rows', (of_dialog, is), refl))

-- what was due is sent again, or given up: its row stays
pub rowed_repeat : (now : ℕ) (sent : Datagram) (fails : Bool) (rows : List Row) → AreRowed (Repeated now sent fails ∷ []) rows rows
rowed_repeat now sent fails rows = (rows, refl, refl)

pub rowed_give_up : (now : ℕ) (rows : List Row) → AreRowed (GaveUp now ∷ []) rows rows
rowed_give_up now rows = (rows, refl, refl)

-- a subscription is gone, and so is its row
pub rowed_gone : (tag : List ℕ) (rows rows' : List Row) → rows' ≡ without tag rows → AreRowed (Gone tag ∷ []) rows rows'
rowed_gone tag rows rows' gone = (rows', gone, refl)

-- ---- an out

pub had_contact : (tag contact : List ℕ) (rows rows' : List Row) → rows' ≡ rows → has_contact tag contact rows ≡ true → IsRetargeted tag contact rows rows'
had_contact tag contact rows rows' same had = inr (same, had)

pub took_contact : (tag contact : List ℕ) (rows rows' : List Row) → rows' ≡ after_retarget tag contact rows → IsRetargeted tag contact rows rows'
took_contact tag contact rows rows' took = inl took

may_retarget : (tag contact : List ℕ) (rows rows' : List Row) → IsRetargeted tag contact rows rows' → MayRetarget tag contact rows rows'
may_retarget tag contact rows rows' (inl retargeted) = inl retargeted
may_retarget tag contact rows rows' (inr had) = inr had.0

module _ (now : ℕ) (o : Out) (tag : List ℕ) (number : ℕ) (terminated : Bool) (to : Addr) (note : KnownNote) (octets : List ℕ) (rows rows' : List Row)
    (is : o ≡ out.Notify to number terminated tag note octets) where
  seen_as : IsSeen now (out.Notify to number terminated tag note octets) rows rows' → IsSeen now o rows rows'
  seen_as seen = let P : Out → Type 0 = λ x. IsSeen now x rows rows' in subst P (sym is) seen

  pub seen_last : terminated ≡ true → rows' ≡ without tag rows → IsSeen now o rows rows'
  seen_last last gone = seen_as (step terminated last) where
    step : (b : Bool) → b ≡ true → IsSeen now (out.Notify to number b tag note octets) rows rows'
    step true e = gone
    step false e = absurd cc

  seen_on : terminated ≡ false
      → ((user : Option (List ℕ)) × MayRetarget tag note.target (after_notify now tag number to (known_from user note) rows) rows')
      ⊎ ((begins tag rows ≡ true) × (rows' ≡ rows)) → IsSeen now o rows rows'
  seen_on on either = seen_as (step terminated on) where
    step : (b : Bool) → b ≡ false → IsSeen now (out.Notify to number b tag note octets) rows rows'
    step false e = either
    step true e = absurd cc

  pub seen_retargeted : (user : Option (List ℕ)) (mid : List Row) → terminated ≡ false → mid ≡ after_notify now tag number to (known_from user note) rows
      → IsRetargeted tag note.target mid rows' → IsSeen now o rows rows'
  seen_retargeted user mid on renewed retargeted =
      seen_on on (inl (user, subst (λ (r : List Row). MayRetarget tag note.target r rows') renewed (may_retarget tag note.target mid rows' retargeted)))

  pub seen_renewed : (user : Option (List ℕ)) → terminated ≡ false → rows' ≡ after_notify now tag number to (known_from user note) rows
      → IsSeen now o rows rows'
  seen_renewed user on renewed = seen_on on (inl (user, inr renewed))

  pub seen_refused : terminated ≡ false → begins tag rows ≡ true → rows' ≡ rows → IsSeen now o rows rows'
  seen_refused on begun same = seen_on on (inr (begun, same))

  -- ---- where there was memory for all

  told_as : (limit : ℕ) → IsTold limit now (out.Notify to number terminated tag note octets) rows rows' → IsTold limit now o rows rows'
  told_as limit told = let P : Out → Type 0 = λ x. IsTold limit now x rows rows' in subst P (sym is) told

  pub told_last : (limit : ℕ) → terminated ≡ true → rows' ≡ without tag rows → IsTold limit now o rows rows'
  told_last limit last gone = told_as limit (step terminated last) where
    step : (b : Bool) → b ≡ true → IsTold limit now (out.Notify to number b tag note octets) rows rows'
    step true e = gone
    step false e = absurd cc

  told_on : (limit : ℕ) → terminated ≡ false
      → ((user : Option (List ℕ)) × HasContact number tag note.target (after_notify now tag number to (known_from user note) rows) rows')
      ⊎ IsFull limit tag rows rows' → IsTold limit now o rows rows'
  told_on limit on either = told_as limit (step terminated on) where
    step : (b : Bool) → b ≡ false → IsTold limit now (out.Notify to number b tag note octets) rows rows'
    step false e = either
    step true e = absurd cc

  pub told_full : (limit : ℕ) → terminated ≡ false → begins tag rows ≡ true → nat_lt (length rows) limit ≡ false → rows' ≡ rows → IsTold limit now o rows rows'
  told_full limit on begun full same = told_on limit on (inr (begun, full, same))

  pub told_first : (limit : ℕ) (user : Option (List ℕ)) → terminated ≡ false → number ≡ 1 → rows' ≡ after_notify now tag number to (known_from user note) rows
      → IsTold limit now o rows rows'
  told_first limit user on first renewed = told_on limit on (inl (user, inl (first, renewed)))

  pub told_retargeted : (limit : ℕ) (user : Option (List ℕ)) (mid : List Row) → terminated ≡ false
      → mid ≡ after_notify now tag number to (known_from user note) rows → IsRetargeted tag note.target mid rows' → IsTold limit now o rows rows'
  told_retargeted limit user mid on renewed retargeted =
      told_on limit on (inl (user, inr (subst (λ (r : List Row). IsRetargeted tag note.target r rows') renewed retargeted)))
