-- A service starts as its plan asks for it.
use Rattle.std.proofs.Common.{◌≡◌, ◌⊎◌, inl, inr, ℕ, suc, ◌<◌, Bool, List, [], ◌∷◌, Option, Some, None, length, map, get_or, Vec, refl, sym, ap, subst, ◌∙◌, arith}
use Rattle.std.specs.Prelude.{IfOk, Result, Ok, Err, unwrap_or}
use Rattle.std.specs.declared.alloc.Global.{Global}
use Rattle.std.proofs.lemmas.List.{length-map, get_or-map as get_or-map-below}
use lib.ListN.{get_or-map}
use Rattle.std.proofs.lemmas.List.FromFn.{get_or-map-range_with_len}
use Rattle.sip_text.specs.declared.address.Addr.{Addr}
use Rattle.admission.specs.declared.judging.Admission.{Admission}
use Rattle.transport.specs.Devices.{SinkSeen}
use Rattle.package.specs.Content.{Seen}
use Rattle.package.specs.declared.change.Change.{Change}
use Rattle.notifier_model.specs.declared.place.Setup.{Setup}
use Rattle.notifier_model.specs.Limits.{IsWithin}
use Rattle.notifier_model.specs.Start.{Start, place_of}
use Rattle.notifier_model.specs.Run.{empty}
use Rattle.notifier.specs.Held.{Held, seen_by}
use Rattle.notifier.specs.Standing.{Standing, first_standing}
use Rattle.crew.specs.Desks.{nowhere, standing_of}
use Rattle.crew.specs.Ready.{start_of}
use Rattle.crew.proofs.Starting.{element, unwrapped}
use Rattle.feeds.specs.Emitted.{writer_seen}
use Rattle.arguments.specs.Setup.{dealt_names}
use Rattle.arguments.specs.Told.{boxes_told, all_told}
use Rattle.arguments.proofs.ToldBoxes.{told-len}
use Rattle.transactions.specs.declared.allowance.Allowance.{Allowance}
use Rattle.service.specs.declared.begins.Begins.{Begins}
use Rattle.service.specs.declared.running.ServiceEnd.{ServiceEnd}
use Rattle.service.specs.Running.{Beginning, Opening, Runs, anew, beginning}
use Rattle.service.specs.Sending.{open_first}
use Rattle.service.proofs.Ran.{begins_anew}
use Rattle.plans.specs.declared.plan.Plan.{Plan}
use Rattle.plans.specs.Plans.{IsCount, most_mailboxes, setup_of}
use Rattle.journal.specs.declared.record.Told.{Told}
use Rattle.keeper.specs.Told.{Kept}
use Rattle.resumption.specs.declared.changed.Wish.{Wish}
use Rattle.resumption.specs.Changed.{all_mails, most_events, most_mails}
use Rattle.commands.specs.Anew.{start_wished, told_anew, counted_on, told_behind}
use Rattle.commands.specs.Begun.{IsLastSecond}
use Rattle.commands.specs.GoingOn.{IsBegunAnew, IsWishOf, StartsThere, worked_here}
use Rattle.commands.specs.Serving.{BeginsAnew, BeginsBy, OpensBy, allowance_of, start_at, Ran}

pub count_is : (asked : Option ℕ) (n : ℕ) → IsCount asked n → IsWithin 1 256 n
count_is None n is = is
count_is (Some m) n is = is.0

-- what a clause says of an answer
pub if_ok : {T E : Type 0} {P Q : T → Type 0} (r : Result T E) → IfOk r P → ((x : T) → P x → Q x) → IfOk r Q
if_ok (Ok x) p f = f x p
if_ok (Err e) p f = p

-- what two clauses say of an answer
pub if_both : {T E : Type 0} {P Q R : T → Type 0} (r : Result T E) → IfOk r P → IfOk r Q → ((x : T) → P x → Q x → R x) → IfOk r R
if_both (Ok x) p q f = f x p q
if_both (Err e) p q f = p

-- a worker on this setup, with the mailboxes that are dealt to it, each with the counts that these changes say
abbrev pub start_with : Setup → ℕ → Bool → List Change → List (List ℕ) → ℕ → Start
start_with setup workers no_refer changes names w = record { place = place_of setup w; boxes = boxes_told no_refer changes (dealt_names workers w names) }

module _ {P : Type 0} (seen : P → Seen) (setup : Setup) (boxes : List (Vec P Global)) (workers : ℕ) (no_refer : Bool) (changes : List Change) (names : List (List ℕ))
    (are_boxes : map (λ (held : Vec P Global). map seen held.items) boxes ≡ all_told workers no_refer changes names) where
  pub count_told : length boxes ≡ workers
  count_told = told-len (λ (held : Vec P Global). map seen held.items) boxes workers no_refer changes names are_boxes

  boxes_at : (w : ℕ) (held : Vec P Global) → w < length boxes → map seen (get_or boxes w held).items ≡ boxes_told no_refer changes (dealt_names workers w names)
  boxes_at w held low =
      let len = count_told in
      sym (get_or-map-below (λ (h : Vec P Global). map seen h.items) boxes w held (map seen held.items) low)
      ∙ ap (λ (all : List (List Seen)). get_or all w (map seen held.items)) are_boxes
      ∙ get_or-map-range_with_len (λ v. boxes_told no_refer changes (dealt_names workers v names)) 0 workers w w (map seen held.items) (omega (arith, len, low)) (omega arith)

  -- each worker starts as it was asked for
  starts_are : (held : Vec P Global) (w : ℕ) → w < length boxes → start_of seen setup w (get_or boxes w held).items ≡ start_with setup workers no_refer changes names w
  starts_are held w low = ap (λ (b : List Seen). let s : Start = record { place = place_of setup w; boxes = b } in s) (boxes_at w held low)

  -- new desks with these packages stand as they were asked for
  pub stand_told : (desks : List (Option (Held P)))
      → ((w : ℕ) (d : Option (Held P)) (held : Vec P Global) → w < length boxes
      → seen_by seen (get_or desks w d) ≡ Some (first_standing (start_of seen setup w (get_or boxes w held).items)))
      → (w : ℕ) (d : Option (Held P)) → w < workers → seen_by seen (get_or desks w d) ≡ Some (first_standing (start_with setup workers no_refer changes names w))
  stand_told desks new w d low =
      let len = count_told in
      let held : Vec P Global = element boxes w (omega (arith, len, low)) in
      new w d held (omega (arith, len, low)) ∙ ap (λ (s : Start). Some (first_standing s)) (starts_are held w (omega (arith, len, low)))

module _ {P : Type 0} (seen : P → Seen) (setup : Setup) (boxes : List (Vec P Global)) (plan : Plan) (local : Addr) (is_setup : setup ≡ setup_of plan local)
    (are_boxes : map (λ (held : Vec P Global). map seen held.items) boxes ≡ all_told plan.workers plan.choices.no_refer plan.changes.items plan.mailboxes.items) where
  pub workers_are : length boxes ≡ plan.workers
  workers_are = count_told seen setup boxes plan.workers plan.choices.no_refer plan.changes.items plan.mailboxes.items are_boxes

  -- as the plan asks for it
  pub stand_new : (desks : List (Option (Held P)))
      → ((w : ℕ) (d : Option (Held P)) (held : Vec P Global) → w < length boxes
      → seen_by seen (get_or desks w d) ≡ Some (first_standing (start_of seen setup w (get_or boxes w held).items)))
      → (w : ℕ) (d : Option (Held P)) → w < plan.workers → seen_by seen (get_or desks w d) ≡ Some (first_standing (start_at plan local w))
  stand_new desks new w d low =
      stand_told seen setup boxes plan.workers plan.choices.no_refer plan.changes.items plan.mailboxes.items are_boxes desks new w d low
      ∙ ap (λ (s : Setup). Some (first_standing (start_with s plan.workers plan.choices.no_refer plan.changes.items plan.mailboxes.items w))) is_setup

-- what lines are taken for, where a journal may have told of changes
pub opens_as : (journal : Option (List ℕ)) (plan : Plan) (changes : Option (Vec Change Global)) (o : Opening)
    → (journal ≡ None → changes ≡ None) → o.mailboxes ≡ plan.mailboxes.items → o.changes ≡ (unwrap_or changes plan.changes).items → o.most ≡ most_mailboxes plan.choices
    → o.networks ≡ plan.operators.items → OpensBy journal plan o
opens_as None plan changes o none mailboxes told most networks =
    let first = told ∙ ap (λ (c : Option (Vec Change Global)). (unwrap_or c plan.changes).items) (none refl) in
    λ i. record { mailboxes = mailboxes i; changes = first i; most = most i; networks = networks i }
opens_as (Some folder) plan changes o none mailboxes told most networks = (mailboxes, most, networks)

-- how a service begins that ran over these desks
pub record Begun {W : Type 0} (contents : W → Option (List ℕ)) (journal : Option (List ℕ)) (plan : Plan) (local : Addr) (opened : Opening) (admission : Admission)
    (before after : SinkSeen W) (outcome : ServiceEnd) : Type 0 where
  pub begins : Beginning
  pub begins_as : BeginsBy journal plan local begins
  pub ran : Ran contents begins plan.workers opened admission before after outcome

-- a desk stands so at its place
pub seen_at : {P : Type 0} (seen : P → Seen) (desks : List (Option (Held P))) (w : ℕ) → get_or (map (seen_by seen) desks) w None ≡ seen_by seen (get_or desks w None)
seen_at seen desks w = get_or-map (seen_by seen) desks w None

-- a wish of a plan asks for the same starts
wished_start : (plan : Plan) (local : Addr) (wish : Wish) → IsWishOf plan (worked_here plan local) wish → (w : ℕ) → start_wished wish plan.changes.items w ≡ start_at plan local w
wished_start plan local wish is w = λ i. record {
  place = place_of (is.works i).setup w;
  boxes = boxes_told (is.works i).no_refer plan.changes.items (dealt_names (is.workers i) w (is.mailboxes i));
}

-- new desks were told no second
zero_last : (desks : List (Option Standing)) (last : ℕ) → ((w : ℕ) → w < length desks → (start : Start) × (get_or desks w None ≡ Some (first_standing start)))
    → IsLastSecond desks last → last ≡ 0
unfolding empty
zero_last [] last new is = is
zero_last (desk ∷ desks) last new is =
    let first = new 0 (omega arith) in
    let one : is.0 ≡ 0 = is.2 (first_standing first.0) first.1 in
    let others : is.1 ≡ 0 = zero_last desks is.1 (λ w low. new (suc w) (omega (arith, low))) is.3 in omega (arith, is.4, one, others)

module _ {P : Type 0} (seen : P → Seen) (plan : Plan) (local : Addr) (desks : List (Option (Held P))) (repeats : Allowance) (work : Begins) (changes : Option (Vec Change Global)) where
  -- they stand so, where nobody looks behind the last
  abbrev pub these : Beginning
  these = beginning (λ w. standing_of seen (get_or desks w None)) repeats work

  -- a run over desks that stand as new ones is one that began anew
  ran_anew : {W : Type 0} (contents : W → Option (List ℕ)) (n : ℕ) {opened : Opening} {admission : Admission} {before after : SinkSeen W} {o : ServiceEnd}
      → n ≡ plan.workers → repeats ≡ allowance_of plan
      → ((w : ℕ) → w < plan.workers → standing_of seen (get_or desks w None) ≡ first_standing (start_at plan local w))
      → work.unanswered.items ≡ [] → work.tick ≡ 0 → Ran contents these n opened admission before after o
      → Ran contents (anew (start_at plan local) (allowance_of plan)) plan.workers opened admission before after o
  ran_anew contents n {opened = opened} {admission = admission} {before = before} {after = after} {o = o} size room each none zeroth ran =
      let starts = start_at plan local in record {
        wire = ran.wire;
        wire' = ran.wire';
        runs =
            subst (λ (k : Allowance). Runs (anew starts k) plan.workers opened admission (record {
              wire = ran.wire;
              wire' = ran.wire';
              writer = writer_seen contents before;
              writer' = writer_seen contents after;
            }) o) room
            (begins_anew these starts plan.workers repeats opened admission _ o each (ap (λ outs. open_first repeats outs) none) zeroth
            (subst (λ (k : ℕ). Runs these k opened admission (record {
              wire = ran.wire;
              wire' = ran.wire';
              writer = writer_seen contents before;
              writer' = writer_seen contents after;
            }) o) size ran.runs));
      }

  each_is : BeginsAnew seen plan local desks work changes → (w : ℕ) → w < plan.workers → standing_of seen (get_or desks w None) ≡ first_standing (start_at plan local w)
  each_is is w low = unwrapped _ _ (is.stands w None low)

  module _ (many : length desks ≡ plan.workers) (new : IsBegunAnew plan (worked_here plan local) (map (seen_by seen) desks) work) where
    stands_new : (w : ℕ) → w < plan.workers → get_or (map (seen_by seen) desks) w None ≡ Some (first_standing (start_at plan local w))
    stands_new w low =
        let n = new.is_wish.workers in
        new.stand w (omega (arith, low, n)) ∙ ap (λ (s : Start). Some (first_standing s)) (wished_start plan local new.wish new.is_wish w)

    each_new : (w : ℕ) → w < plan.workers → standing_of seen (get_or desks w None) ≡ first_standing (start_at plan local w)
    each_new w low = unwrapped _ _ (sym (seen_at seen desks w) ∙ stands_new w low)

    none_told : work.tick ≡ 0
    none_told =
        let size : length (map (seen_by seen) desks) ≡ length desks = length-map desks (seen_by seen) in
        zero_last (map (seen_by seen) desks) work.tick (λ w low. (start_at plan local w, stands_new w (omega (arith, low, size, many)))) new.begins_so.tick

  -- the service that was asked for
  pub begun : {W : Type 0} (contents : W → Option (List ℕ)) (journal : Option (List ℕ)) (n : ℕ) {opened : Opening} {admission : Admission} {before after : SinkSeen W} {o : ServiceEnd}
      → n ≡ plan.workers → length desks ≡ plan.workers → repeats ≡ allowance_of plan
      → (journal ≡ None → BeginsAnew seen plan local desks work changes)
      → StartsThere plan local (map (seen_by seen) desks) work ⊎ BeginsAnew seen plan local desks work changes
      → Ran contents these n opened admission before after o
      → Begun contents journal plan local opened admission before after o
  begun contents None n size many room anew_if starts ran =
      let is = anew_if refl in record {
        begins = anew (start_at plan local) (allowance_of plan);
        begins_as = refl;
        ran = ran_anew contents n size room (each_is is) is.none_waits is.none_told ran;
      }
  begun contents (Some folder) n size many room anew_if (inr is) ran = record {
    begins = anew (start_at plan local) (allowance_of plan);
    begins_as = inl refl;
    ran = ran_anew contents n size room (each_is is) is.none_waits is.none_told ran;
  }
  begun contents (Some folder) n size many room anew_if (inl (inr new)) ran = record {
    begins = anew (start_at plan local) (allowance_of plan);
    begins_as = inl refl;
    ran = ran_anew contents n size room (each_new many new) new.begins_so.unanswered (none_told many new) ran;
  }
  begun contents (Some folder) n {opened = opened} {admission = admission} {before = before} {after = after} {o = o} size many room anew_if (inl (inl from)) ran = record {
    begins = these;
    begins_as = inr (record {
      desks = map (seen_by seen) desks;
      begins = work;
      from_journal = from;
      begins_so = λ i. beginning (λ w. unwrap_or (sym (seen_at seen desks w) i) nowhere) (room i) work;
    });
    ran = subst (λ (k : ℕ). Ran contents these k opened admission before after o) size ran;
  }

-- the counts go on behind those of workers that end
pub told_on : (wish : Wish) (kept : List Kept) (changes : List Change) (events mails : ℕ) (told all : List Told)
    → changes ≡ all_mails kept → events ≡ most_events kept → mails ≡ most_mails kept → told ≡ told_anew wish changes
    → all ≡ map (counted_on events mails) told → all ≡ told_behind wish kept
told_on wish kept changes events mails told all a b c d e =
    e ∙ ap (map (counted_on events mails)) (d ∙ ap (told_anew wish) a)
    ∙ ap (λ (n : ℕ). map (counted_on n mails) (told_anew wish (all_mails kept))) b
    ∙ ap (λ (n : ℕ). map (counted_on (most_events kept) n) (told_anew wish (all_mails kept))) c
