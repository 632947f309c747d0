-- What the taker got of the other workers has no NOTIFY of a worker's subscription, whatever came before.
use Rattle.std.proofs.Common.{◌≡◌, ⊎_elim, ◌≢◌, ◌==◌, ◌<◌, ◌≤◌, ◌^◌, ℕ, Bool, true, false, List, [], ◌∷◌, ◌++◌, length, get_or, refl, ap, sym, subst, ◌∙◌, eq-eqb, ne_eqb, arith}
use Rattle.std.specs.Prelude.{nat_lt, Some, slice_get}
use Rattle.std.proofs.lemmas.List.{append-nil}
use Rattle.std.proofs.lemmas.List.Elements.{All-nil, All-head, All-tail, All-push}
use Rattle.std.proofs.lemmas.Option.{get_or_from_slice_get, slice_get_cases, slice_get_within}
use Rattle.queues.specs.declared.items.Item.{Item}
use Rattle.queues.specs.Items.{items_of}
use Rattle.queues.specs.Values.{values}
use Rattle.notifier_model.specs.declared.event.Event.{Event}
use Rattle.notifier_model.specs.declared.event.Out.{Out}
use Rattle.notifier_model.specs.Start.{Start}
use Rattle.notifier.specs.Standing.{Standing}
use Rattle.queues.specs.OutboxSeats.{TakerSeat, PosterSeat, new_taker}
use Rattle.queues.specs.OutboxTook.{posted_item}
use Rattle.queues.specs.declared.outbox.Posted.{Posted}
use Rattle.crew.specs.GoesOn.{standing_after, events_in_all, outs_in_all, notices_in_all, WentOn, WholeGoesOnLaw, RisingGoesOnLaw}
use Rattle.crew.specs.Whole.{AllBy, TookAll, TookLaw, IsCrewRun, IsCrewRunFrom, WholeLaw, RisingLaw}
use Rattle.crew.specs.Joined.{Reported}
use Rattle.crew.specs.Started.{Hired}
use Rattle.crew.specs.declared.report.WorkerReport.{WorkerReport}
use Rattle.life.specs.Laws.{IsStart, AreNotifies, notifies_with, outs}
use Rattle.life.specs.Notices.{newest_first}
use Rattle.schedules.specs.Laws.{Rise}
use Rattle.schedules.proofs.Cases.{never_both, is_below}
use Rattle.schedules.proofs.Steps.{above}
use Rattle.schedules.proofs.Numbering.{first_rise}
use Rattle.schedules.proofs.Told.{none_at_all}
use Rattle.schedules.proofs.Others.{IsStrange, others_strange, others_silent, notifies-append, with_tag, IsAlone, own_alone}
use Rattle.crew.specs.Laws.{its_notices, its_tag}
use Rattle.crew.proofs.GoingOn.{fresh, none_before, goes_on_law, life_goes_on_law}
use Rattle.crew.proofs.Zipped.{zip_at, zip_len}

-- ---- what was got is of the crew's workers

took_by : (n : ℕ) (old : TakerSeat) (took : List Posted) (new : TakerSeat) → old.workers ≡ n → TookAll old took new → AllBy n old.got → AllBy n new.got
took_by n old [] new all same by = subst (λ (t : TakerSeat). AllBy n t.got) (sym same) by
took_by n old (posted ∷ more) new all (mid, one, rest) by =
    let low : (posted_item posted).from < n = subst (λ k. (posted_item posted).from < k) all one.1.0 in
    took_by n mid more new (ap (λ (t : TakerSeat). t.workers) one.0 ∙ all) rest
    (subst (λ (t : TakerSeat). AllBy n t.got) (sym one.0) (All-push (λ (x : Item Out). x.from < n) old.got (posted_item posted) by low))

pub took_law : TookLaw
took_law outbox workers took taker all =
    took_by workers (new_taker outbox workers) took taker refl all (All-nil (λ (x : Item Out). x.from < workers))

none_above : (n v : ℕ) (xs : List (Item Out)) → n ≤ v → AllBy n xs → items_of v xs ≡ []
none_above n v [] high by = refl
none_above n v (x ∷ xs) high by =
    let low = All-head (λ (y : Item Out). y.from < n) x xs by in
    let other : x.from ≢ v = λ same. omega arith in
    rw (ne_eqb x.from v other) (none_above n v xs high (All-tail (λ (y : Item Out). y.from < n) x xs by))

-- ---- the workers of a run

second_none : {A : Type 0} (xs ys : List A) → xs ++ ys ≡ [] → ys ≡ []
second_none [] ys e = e
second_none (x ∷ xs) ys e = absurd (cc)

module _ (start : ℕ → Start) (before : ℕ → List Event) (crew : List Hired) (got : List (Item Out)) (reports : List WorkerReport) (h : Hired) (r : WorkerReport) (run : WentOn start before crew got reports) (by : AllBy (length crew) got) where
  abbrev hired_at : ℕ → Hired
  hired_at v = get_or crew v h

  abbrev report_at : ℕ → WorkerReport
  report_at v = get_or reports v r

  begins : (v : ℕ) → v < length crew → (hired_at v).stands ≡ standing_after (start v) (before v)
  begins v lt = let is = run.started.each v h lt in is.begins

  posts_as : (v : ℕ) → v < length crew → (hired_at v).posts.number ≡ v
  posts_as v lt = let is = run.started.each v h lt in ap (λ (p : PosterSeat). p.number) is.tells

  told : (v : ℕ) → v < length crew → Reported (hired_at v) got (report_at v)
  told v lt = zip_at (λ (x : Hired) (y : WorkerReport). Reported x got y) crew reports run.joined.reported v h r lt

  works_as : (v : ℕ) → v < length crew → (hired_at v).stands.place.worker ≡ v
  works_as v lt = ap (λ (s : Standing). s.place.worker) (begins v lt) ∙ run.starts.numbers v lt

  small_number : (n v : ℕ) → n ≡ v → v < length crew → n < 2 ^ 64
  small_number n v is lt = let few = run.starts.few in omega arith

  strange : (v w serial : ℕ) → v < length crew → w < length crew → (v == w) ≡ false → IsStrange (start v).place (its_tag (hired_at w) serial)
  strange v w serial lv lw other =
      let here : (start v).place.worker ≡ v = run.starts.numbers v lv in
      let there : (hired_at w).stands.place.worker ≡ w = works_as w lw in
      others_strange (start v).place (hired_at w).stands.place serial (small_number (start v).place.worker v here lv) (small_number (hired_at w).stands.place.worker w there lw)
      (λ same. never_both (v == w) (eq-eqb v w (sym here ∙ (same ∙ there))) other)

  -- what the taker got of worker v has no NOTIFY with the tag of a subscription of w
  silent : (v w serial : ℕ) → v < length crew → w < length crew → (v == w) ≡ false → with_tag (its_tag (hired_at w) serial) (items_of v got) ≡ []
  silent v w serial lv lw other =
      let tag : List ℕ = its_tag (hired_at w) serial in
      let sent : List Out = values (items_of (hired_at v).posts.number got) in
      ap (λ k. with_tag tag (items_of k got)) (sym (posts_as v lv))
      ∙ second_none (notifies_with tag (outs (start v) (before v))) (notifies_with tag sent)
      (sym (notifies-append tag (outs (start v) (before v)) sent)
      ∙ ap (notifies_with tag) (goes_on_law (start v) (before v) (hired_at v) got (report_at v) (begins v lv) (told v lv))
      ∙ others_silent (start v) (events_in_all (before v) (hired_at v) (report_at v)) tag (run.starts.each v lv) (strange v w serial lv lw other))

  alone : (w serial : ℕ) → w < length crew → IsAlone (its_tag (hired_at w) serial) w got
  alone w serial lw v other = by_number (nat_lt v (length crew)) refl
    where
      by_number : (d : Bool) → nat_lt v (length crew) ≡ d → with_tag (its_tag (hired_at w) serial) (items_of v got) ≡ []
      by_number true e = silent v w serial (is_below v (length crew) e) lw other
      by_number false e =
          ap (with_tag (its_tag (hired_at w) serial)) (none_above (length crew) v got (above v (length crew) e) by)
          ∙ none_at_all (its_tag (hired_at w) serial)

  whole_at : (w serial : ℕ) → w < length crew → serial < 2 ^ 64
      → AreNotifies (its_tag (hired_at w) serial) (notices_in_all (start w) (before w) (hired_at w) (report_at w) serial)
      (notifies_with (its_tag (hired_at w) serial) (outs (start w) (before w) ++ values got))
  whole_at w serial lt small =
      let hired : Hired = hired_at w in
      let tag : List ℕ = its_tag hired serial in
      let first : List Out = outs (start w) (before w) in
      let of_worker = life_goes_on_law (start w) (before w) hired got (report_at w) serial (run.starts.each w lt) small (begins w lt) (told w lt) in
      let its : with_tag tag got ≡ with_tag tag (items_of hired.posts.number got) =
      own_alone tag w got (alone w serial lt) ∙ ap (λ k. with_tag tag (items_of k got)) (sym (posts_as w lt)) in
      let all : notifies_with tag (first ++ values got) ≡ notifies_with tag (first ++ values (items_of hired.posts.number got)) =
      notifies-append tag first (values got) ∙ ap (λ l. notifies_with tag first ++ l) its ∙ sym (notifies-append tag first (values (items_of hired.posts.number got))) in
      subst (AreNotifies tag (notices_in_all (start w) (before w) hired (report_at w) serial)) (sym all) of_worker

pub whole_goes_on_law : WholeGoesOnLaw
whole_goes_on_law start before crew got reports w serial h r run by here there small =
    let lt : w < length crew = slice_get_within crew w h here in
    let sent : List Out = outs (start w) (before w) ++ values got in
    subst (λ (x : WorkerReport). AreNotifies (its_tag h serial) (notices_in_all (start w) (before w) h x serial) (notifies_with (its_tag h serial) sent)) (get_or_from_slice_get reports w r r there)
    (subst (λ (x : Hired). AreNotifies (its_tag x serial) (notices_in_all (start w) (before w) x (get_or reports w r) serial) (notifies_with (its_tag x serial) sent)) (get_or_from_slice_get crew w h h here)
    (whole_at start before crew got reports h r run by w serial lt small))

pub rising_goes_on_law : RisingGoesOnLaw
rising_goes_on_law start before crew got reports w serial h run by here small =
    ⊎_elim
    (λ there. rises there.0 there.2)
    (λ past. absurd (let lt = slice_get_within crew w h here in let same = zip_len (λ (x : Hired) (y : WorkerReport). Reported x got y) crew reports run.joined.reported in let le = past.0 in omega arith))
    (slice_get_cases reports w).1
  where
    rises : (r : WorkerReport) → slice_get reports w ≡ Some r → Rise (notifies_with (its_tag h serial) (outs (start w) (before w) ++ values got))
    rises r there =
        let all = notices_in_all (start w) (before w) h r serial in
        first_rise (start w) serial (newest_first (events_in_all (before w) h r)) (its_tag h serial) all
        (notifies_with (its_tag h serial) (outs (start w) (before w) ++ values got))
        ([], sym (append-nil all)) (whole_goes_on_law start before crew got reports w serial h r run by here there small)

-- ---- new desks

-- no event came before
abbrev none : ℕ → List Event
none w = []

anew : (start : ℕ → Start) (crew : List Hired) (got : List (Item Out)) (reports : List WorkerReport) → IsCrewRun start crew got reports → WentOn start none crew got reports
anew start crew got reports run = subst (λ (stands : ℕ → Standing). IsCrewRunFrom start stands crew got reports) (λ i w. fresh (start w) i) run

pub whole_law : WholeLaw
whole_law start crew got reports w serial h r run by here there small =
    subst (λ (l : List Out). AreNotifies (its_tag h serial) (its_notices (start w) h r serial) (notifies_with (its_tag h serial) (l ++ values got))) (none_before (start w))
    (whole_goes_on_law start none crew got reports w serial h r (anew start crew got reports run) by here there small)

pub rising_law : RisingLaw
rising_law start crew got reports w serial h run by here small =
    subst (λ (l : List Out). Rise (notifies_with (its_tag h serial) (l ++ values got))) (none_before (start w))
    (rising_goes_on_law start none crew got reports w serial h (anew start crew got reports run) by here small)
