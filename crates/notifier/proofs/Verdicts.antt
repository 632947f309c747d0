-- What a request that makes a dialog is like: it fits, it makes this, and a serial is left for it.
use Rattle.std.proofs.Common.{◌≡◌, ◌≤◌, ℕ, List, length, Bool, true, false, ◌||◌, ◌&&◌, Option, Some, None, if◌then◌else◌, refl, nat_lt, nat_le, arith}
use Rattle.std.proofs.lemmas.Bool.Decides.{nat_tests}
use Rattle.std.specs.Prelude.{find}
use Rattle.sip_read.specs.declared.message.Request.{Request}
use Rattle.notifier_model.specs.declared.birth.Birth.{Birth}
use Rattle.notifier_model.specs.declared.refusal.Refusal.{Refusal}
use Rattle.notifier_model.specs.declared.refusal.Refusal.TheVariants.{OldCseq, Full}
use Rattle.notifier_model.specs.declared.row.Row.{Row}
use Rattle.notifier_model.specs.Limits.{Limits}
use Rattle.notifier_model.specs.Requests.{is_ack, key_of_request, misfit, misplaced, denial, birth_of, needs_place, is_full}
use Rattle.notifier_model.specs.Answers.{kept_answer}
use Rattle.notifier_model.specs.Rows.{is_dialog}
use Rattle.notifier_model.specs.Book.{Book, Silent, Refused, Born, unless, unless_denied, in_dialog, outside, by_to_tag, by_kept, verdict}

pub record Bears (limits : Limits) (next : ℕ) (r : Request) (kind : Birth) : Type 0 where
  pub fits : misfit r ≡ None
  pub is : kind ≡ birth_of limits r
  pub room : next ≤ limits.serials

not_beyond : (serials next : ℕ) (d : Bool) → (nat_lt serials next || d) ≡ false → next ≤ serials
not_beyond serials next d e = by (nat_lt serials next) refl e
  where
    by : (b : Bool) → nat_lt serials next ≡ b → (b || d) ≡ false → next ≤ serials
    by true t f = absurd (cc)
    by false t f = grind (arith, nat_tests)

not_full : (limits : Limits) (next alive : ℕ) (r : Request) → is_full limits next alive r ≡ false → next ≤ limits.serials
unfolding is_full
not_full limits next alive r e = not_beyond limits.serials next (nat_le limits.table alive && needs_place (birth_of limits r)) e

module _ (limits : Limits) (b : Book) (r : Request) (kind : Birth) where
  never_denied : (serial : ℕ) (o : Option Refusal) → unless_denied serial o ≡ Born kind → ⊥
  unfolding unless_denied
  never_denied serial None e = cc
  never_denied serial (Some cause) e = cc

  never_in_dialog : (o : Option Row) → in_dialog limits r o ≡ Born kind → ⊥
  unfolding in_dialog
  never_in_dialog None e = cc
  never_in_dialog (Some row) e = by (nat_lt row.last_cseq r.head.cseq) e
    where
      by : (d : Bool) → (if d then unless_denied row.serial (denial limits row.sub.want.event r) else Refused OldCseq) ≡ Born kind → ⊥
      by true h = never_denied row.serial (denial limits row.sub.want.event r) h
      by false h = cc

  of_outside : misfit r ≡ None → outside limits b r ≡ Born kind → Bears limits b.next r kind
  unfolding outside unless
  of_outside fits e = by_place (misplaced limits b.boxes r) e
    where
      by_full : (d : Bool) → is_full limits b.next (length b.rows) r ≡ d → (if d then Refused Full else Born (birth_of limits r)) ≡ Born kind → Bears limits b.next r kind
      by_full true f h = absurd (cc)
      by_full false f h = record { fits = fits; is = cc; room = not_full limits b.next (length b.rows) r f }

      by_place : (o : Option Refusal) → unless o (if is_full limits b.next (length b.rows) r then Refused Full else Born (birth_of limits r)) ≡ Born kind → Bears limits b.next r kind
      by_place None h = by_full (is_full limits b.next (length b.rows) r) refl h
      by_place (Some cause) h = absurd (cc)

  of_tag : (o : Option (List ℕ)) → misfit r ≡ None → by_to_tag limits b r o ≡ Born kind → Bears limits b.next r kind
  unfolding by_to_tag
  of_tag None fits e = of_outside fits e
  of_tag (Some tag) fits e = absurd (never_in_dialog (find (is_dialog r tag) b.rows) e)

  of_misfit : (o : Option Refusal) → misfit r ≡ o → unless o (by_to_tag limits b r r.head.to.tag) ≡ Born kind → Bears limits b.next r kind
  unfolding unless
  of_misfit None fits e = of_tag r.head.to.tag fits e
  of_misfit (Some cause) fits e = absurd (cc)

  of_kept : (o : Option (List ℕ)) → by_kept limits b r o ≡ Born kind → Bears limits b.next r kind
  unfolding by_kept
  of_kept None e = of_misfit (misfit r) refl e
  of_kept (Some bytes) e = absurd (cc)

  of_ack : (d : Bool) → (if d then Silent else by_kept limits b r (kept_answer b.ring (key_of_request r))) ≡ Born kind → Bears limits b.next r kind
  of_ack true e = absurd (cc)
  of_ack false e = of_kept (kept_answer b.ring (key_of_request r)) e

  pub bears : verdict limits b r ≡ Born kind → Bears limits b.next r kind
  unfolding verdict
  bears e = of_ack (is_ack r) e
