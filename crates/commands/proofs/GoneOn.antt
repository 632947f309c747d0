-- A service that goes on from its journal, and the plan of its run.
use Rattle.std.proofs.Common.{◌≡◌, ◌⊎◌, inl, inr, ◌∙◌, ℕ, Bool, ◌||◌, List, [], ◌∷◌, ◌++◌, length, map, take, Option, Some, None, Vec, refl, sym, ap, subst}
use Rattle.std.specs.Prelude.{if◌then◌else◌}
use Rattle.std.specs.List.{list_any}
use Rattle.std.proofs.lemmas.List.{length-map}
use Rattle.std.specs.declared.alloc.Global.{Global}
use Rattle.sip_text.specs.declared.address.Addr.{Addr}
use Rattle.package.specs.Content.{Seen}
use Rattle.package.specs.declared.change.Change.{Change}
use Rattle.package.specs.Values.{MailChange}
use Rattle.notifier_model.specs.declared.event.Out.{Out}
use Rattle.notifier.specs.Awaiting.{is_awaited}
use Rattle.notifier.specs.Held.{Held, seen_by}
use Rattle.notifier.specs.Standing.{Standing}
use Rattle.journal.specs.declared.file.Account.{Account}
use Rattle.journal.specs.declared.header.Header.{Header}
use Rattle.keeper.specs.Told.{Kept}
use Rattle.keeper.specs.Keeping.{State}
use Rattle.resumption.specs.declared.changed.Renewed.{Renewed}
use Rattle.resumption.specs.declared.changed.Wish.{Wish}
use Rattle.resumption.specs.declared.desks.Replayed.{Replayed}
use Rattle.resumption.specs.declared.desks.Worked.{Worked}
use Rattle.resumption.specs.declared.found.Found.{Found}
use Rattle.resumption.specs.declared.terms.Terms.{Terms}
use Rattle.resumption.specs.Accounts.{all_unanswered, all_kept}
use Rattle.resumption.specs.Reloaded.{stood}
use Rattle.resumption.specs.Changed.{all_carried, all_carried_outs, all_mails, all_shut}
use Rattle.plans.specs.declared.plan.Plan.{Plan}
use Rattle.plans.specs.Plans.{mailboxes_told}
use Rattle.service.specs.declared.begins.Begins.{Begins}
use Rattle.commands.specs.declared.journal_opened.Opened.{Opened}
use Rattle.commands.specs.declared.journal_start.Course.{Course}
use Rattle.commands.specs.declared.journal_start.Started.{Started}
use Rattle.commands.specs.Anew.{AreNew}
use Rattle.commands.specs.Begun.{BeginsOver}
use Rattle.commands.specs.GoingOn.{awaits_any, AreSentFirst, GoesOn, IsHeaderOf, IsReplayed, IsWishOf, IsCarriedOn, IsEnded, StartsBy, StartsThere, IsGoneOn, IsBegunAnew, worked_then, worked_here, terms_of, stood_then, unanswered_then, kept_then}
use Rattle.commands.specs.Runs.{all_unheld, kept_also, told_mailboxes, header_found, adopted_from, IsRunOf}

-- ---- the plan of a run

mailboxes_stay : (header : Option Header) (told run : Plan) → run ≡ adopted_from header told → run.mailboxes ≡ told.mailboxes
mailboxes_stay None told run is = ap (λ (p : Plan). p.mailboxes) is
mailboxes_stay (Some header) told run is = ap (λ (p : Plan). p.mailboxes) is

pub run_is : (plan told run : Plan) (opened : Option Opened) (former : Option (List (List ℕ))) (names : List (List ℕ)) (header : Option Header)
    → names ≡ told_mailboxes plan opened former → told.mailboxes.items ≡ mailboxes_told plan names
    → told ≡ record plan { mailboxes = told.mailboxes } → header ≡ header_found opened → run ≡ adopted_from header told → IsRunOf plan opened former run
run_is plan told run opened former names header its_names its_mailboxes same its_header is =
    let stay = mailboxes_stay header told run is in record {
      mailboxes = ap (λ (m : Vec (List ℕ) Global). m.items) stay ∙ its_mailboxes ∙ ap (mailboxes_told plan) its_names;
      others =
          is
          ∙ ap (adopted_from header) (same ∙ ap (λ (m : Vec (List ℕ) Global). let p : Plan = record plan { mailboxes = m } in p) (sym stay))
          ∙ ap (λ (h : Option Header). adopted_from h (record plan { mailboxes = run.mailboxes })) its_header;
    }

-- ---- how it goes on

-- desks wait for an answer as they stand
pub awaits_so : {P : Type 0} (seen : P → Seen) (desks : List (Option (Held P))) (tag : List ℕ) (number : ℕ)
    → awaits_any (map (seen_by seen) desks) tag number ≡ list_any (λ desk. is_awaited (seen_by seen desk) tag number) desks
awaits_so seen [] tag number = refl
awaits_so seen (desk ∷ desks) tag number = ap (λ (b : Bool). is_awaited (seen_by seen desk) tag number || b) (awaits_so seen desks tag number)

-- what was replayed of desks that worked so
pub replayed_so : {P : Type 0} (seen : P → Seen) (found : Found) (stop : Bool) (worked : Worked) (accounts : List Account) (desks slice : List (Option (Held P)))
    (newest outs : List Out) (kept : State) → worked ≡ worked_then found stop → accounts ≡ found.generation.accounts → slice ≡ desks
    → map (seen_by seen) desks ≡ stood worked accounts → newest ≡ all_unanswered worked accounts → kept ≡ all_kept accounts
    → AreSentFirst (map (seen_by seen) slice) newest outs
    → IsReplayed found stop (map (seen_by seen) desks) outs kept
replayed_so seen found stop worked accounts desks slice newest outs kept is its same stand unanswered told sent =
    let stood_so : map (seen_by seen) desks ≡ stood_then found stop =
    stand ∙ ap (λ (w : Worked). stood w accounts) is ∙ ap (λ (a : List Account). stood (worked_then found stop) a) its in
    let newest_so : newest ≡ unanswered_then found stop =
    unanswered ∙ ap (λ (w : Worked). all_unanswered w accounts) is ∙ ap (λ (a : List Account). all_unanswered (worked_then found stop) a) its in record {
      stand = stood_so;
      awaited =
          subst (λ (l : List Out). AreSentFirst (stood_then found stop) l outs) newest_so
          (subst (λ (d : List (Option Standing)). AreSentFirst d newest outs) (ap (map (seen_by seen)) same ∙ stood_so) sent);
      told = told ∙ ap all_kept its;
    }

-- it is begun over desks that stand the same, and the same is sent first
begun_so : (were are : List (Option Standing)) (outs first : List Out) (begins : Begins) → are ≡ were → outs ≡ first → BeginsOver were outs begins → BeginsOver are first begins
begun_so were are outs first begins desks sent begun =
    subst (λ (d : List (Option Standing)). BeginsOver d first begins) (sym desks) (subst (λ (l : List Out). BeginsOver were l begins) sent begun)

-- how desks stand that are the same
same_stand : {P : Type 0} (seen : P → Seen) (one other : Vec (Option (Held P)) Global) → one ≡ other → map (seen_by seen) one.items ≡ map (seen_by seen) other.items
same_stand {P} seen one other same = ap (λ (d : Vec (Option (Held P)) Global). map (seen_by seen) d.items) same

module _ {P : Type 0} (seen : P → Seen) (found : Found) (stop : Bool) (r : Replayed P) (s : Started P)
    (was : IsReplayed found stop (map (seen_by seen) r.desks.items) r.unanswered.items r.keeper) where
  pub straight_so : s.desks ≡ r.desks → BeginsOver (map (seen_by seen) r.desks.items) r.unanswered.items s.begins
      → (map (seen_by seen) s.desks.items ≡ stood_then found stop) × BeginsOver (map (seen_by seen) s.desks.items) r.unanswered.items s.begins
  straight_so same begins =
      let e = same_stand seen s.desks r.desks same in
      (e ∙ was.stand, begun_so (map (seen_by seen) r.desks.items) (map (seen_by seen) s.desks.items) r.unanswered.items r.unanswered.items s.begins e refl begins)

  module _ (plan : Plan) (wish : Wish) (again : Replayed P) (unheld : List (List MailChange)) (renewed : Renewed P)
      (desks : again.desks ≡ r.desks) (unanswered : again.unanswered ≡ r.unanswered) (kept : again.keeper ≡ kept_also unheld r.keeper) (is : unheld ≡ all_unheld plan found)
      (same : s.desks ≡ renewed.desks) (begins : BeginsOver (map (seen_by seen) renewed.desks.items) renewed.first.items s.begins) where
    stood_so : map (seen_by seen) again.desks.items ≡ stood_then found stop
    stood_so = same_stand seen again.desks r.desks desks ∙ was.stand

    kept_so : again.keeper.workers ≡ kept_then plan found
    kept_so =
        ap (λ (k : State). k.workers)
        (kept ∙ ap (λ (u : List (List MailChange)). kept_also u r.keeper) is ∙ ap (λ (k : State). kept_also (all_unheld plan found) k) was.told)

    desks_so : map (seen_by seen) s.desks.items ≡ map (seen_by seen) renewed.desks.items
    desks_so = same_stand seen s.desks renewed.desks same

    pub carried_on : (is_lost : Bool)
        → map (seen_by seen) renewed.desks.items ≡ all_carried wish is_lost (map (seen_by seen) again.desks.items) again.keeper.workers
        → renewed.first.items ≡ (if is_lost then [] else again.unanswered.items) ++ all_carried_outs wish is_lost (map (seen_by seen) again.desks.items) again.keeper.workers
        → IsCarriedOn wish is_lost (stood_then found stop) r.unanswered.items (kept_then plan found) (map (seen_by seen) s.desks.items) s.begins
    carried_on is_lost stand first = record {
      stand =
          desks_so ∙ stand
          ∙ ap (λ (l : List (Option Standing)). all_carried wish is_lost l again.keeper.workers) stood_so
          ∙ ap (λ (k : List Kept). all_carried wish is_lost (stood_then found stop) k) kept_so;
      begins_so =
          begun_so (map (seen_by seen) renewed.desks.items) (map (seen_by seen) s.desks.items) renewed.first.items _ s.begins desks_so
          (first
          ∙ ap (λ (u : Vec Out Global). (if is_lost then [] else u.items) ++ all_carried_outs wish is_lost (map (seen_by seen) again.desks.items) again.keeper.workers) unanswered
          ∙ ap (λ (l : List (Option Standing)). (if is_lost then [] else r.unanswered.items) ++ all_carried_outs wish is_lost l again.keeper.workers) stood_so
          ∙ ap (λ (k : List Kept). (if is_lost then [] else r.unanswered.items) ++ all_carried_outs wish is_lost (stood_then found stop) k) kept_so)
          begins;
    }

    pub ended_so : AreNew wish (all_mails (take (length again.desks.items) again.keeper.workers)) (map (seen_by seen) renewed.desks.items)
        → renewed.first.items ≡ all_shut (map (seen_by seen) again.desks.items)
        → IsEnded wish (stood_then found stop) (kept_then plan found) (map (seen_by seen) s.desks.items) s.begins
    ended_so stand first =
        let many : length again.desks.items ≡ length (stood_then found stop) = sym (length-map again.desks.items (seen_by seen)) ∙ ap length stood_so in record {
          stand =
              subst (λ (n : ℕ). AreNew wish (all_mails (take n (kept_then plan found))) (map (seen_by seen) s.desks.items)) many
              (subst (λ (k : List Kept). AreNew wish (all_mails (take (length again.desks.items) k)) (map (seen_by seen) s.desks.items)) kept_so
              (subst (λ (d : List (Option Standing)). AreNew wish (all_mails (take (length again.desks.items) again.keeper.workers)) d) (sym desks_so) stand));
          begins_so = begun_so (map (seen_by seen) renewed.desks.items) (map (seen_by seen) s.desks.items) renewed.first.items _ s.begins desks_so (first ∙ ap all_shut stood_so) begins;
        }

-- by the course that is so
pub gone_on : (plan : Plan) (work : Worked) (terms : Terms) (header : Header) (found : Found) (course this : Course) (unanswered : List Out)
    (desks : List (Option Standing)) (begins : Begins) → course ≡ this → GoesOn plan.mailboxes.items terms header found course
    → AreSentFirst (stood_then found work.setup.stop) (unanswered_then found work.setup.stop) unanswered
    → StartsBy plan work this (stood_then found work.setup.stop) unanswered (kept_then plan found) desks begins
    → IsGoneOn plan work terms header found desks begins
gone_on plan work terms header found course this unanswered desks begins is goes_on awaited starts = record {
  course = this;
  goes_on = subst (λ (c : Course). GoesOn plan.mailboxes.items terms header found c) is goes_on;
  unanswered = unanswered;
  awaited = awaited;
  starts = starts;
}

-- new desks with the changes that the plan says, and nothing is sent first
pub anew_so : {P : Type 0} (seen : P → Seen) (plan : Plan) (work : Worked) (wish : Wish) (renewed : Renewed P) (s : Started P) (changes : List Change) → IsWishOf plan work wish
    → changes ≡ plan.changes.items → AreNew wish changes (map (seen_by seen) renewed.desks.items) → renewed.first.items ≡ []
    → s.desks ≡ renewed.desks → BeginsOver (map (seen_by seen) renewed.desks.items) renewed.first.items s.begins
    → IsBegunAnew plan work (map (seen_by seen) s.desks.items) s.begins
anew_so seen plan work wish renewed s changes is_wish its stand none same begins =
    let desks = same_stand seen s.desks renewed.desks same in record {
      wish = wish;
      is_wish = is_wish;
      stand =
          subst (λ (l : List Change). AreNew wish l (map (seen_by seen) s.desks.items)) its
          (subst (λ (d : List (Option Standing)). AreNew wish changes d) (sym desks) stand);
      begins_so = begun_so (map (seen_by seen) renewed.desks.items) (map (seen_by seen) s.desks.items) renewed.first.items [] s.begins desks none begins;
    }

-- ---- as it is planned

module _ (plan was : Plan) (local : Addr) (work : Worked) (desks : List (Option Standing)) (begins : Begins) (same : was ≡ plan) (works : work ≡ worked_here plan local) where
  pub there_on : (terms : Terms) (header : Header) (found : Found) → terms ≡ terms_of plan → IsHeaderOf plan local header
      → IsGoneOn was work terms header found desks begins → StartsThere plan local desks begins
  there_on terms header found so is gone = inl (record {
    header = header;
    is_header = is;
    found = found;
    gone_on =
        subst (λ (t : Terms). IsGoneOn plan (worked_here plan local) t header found desks begins) so
        (subst (λ (w : Worked). IsGoneOn plan w terms header found desks begins) works
        (subst (λ (p : Plan). IsGoneOn p work terms header found desks begins) same gone));
  })

  pub there_anew : IsBegunAnew was work desks begins → StartsThere plan local desks begins
  there_anew new =
      inr (subst (λ (w : Worked). IsBegunAnew plan w desks begins) works (subst (λ (p : Plan). IsBegunAnew p work desks begins) same new))
