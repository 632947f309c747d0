-- What became of the outs, one by one.
use Rattle.std.proofs.Common.{◌≡◌, ℕ, zero, suc, ◌+◌, ◌<◌, ◌⊎◌, Bool, true, false, List, [], ◌∷◌, ◌++◌, length, Option, refl, ap, sym, ◌∙◌, subst, append_assoc, arith, length-append, ⊎_elim, inl, inr}
use Rattle.std.specs.List.{filter}
use Rattle.std.proofs.lemmas.List.{append-nil, map-append}
use Rattle.std.proofs.lemmas.List.Elements.{All-nil, All-push, filter-append, filter_map-append}
use Rattle.std.proofs.lemmas.List.Concat.{flat_map-append}
use Rattle.std.specs.Io.KnownBytes.{Appends}
use Rattle.transport.specs.Devices.{one_more, rises}
use Rattle.transport.proofs.Devices.{appends_none, appends_more}
use Rattle.queues.specs.declared.items.Item.{Item}
use Rattle.queues.specs.Values.{value_item, end_item}
use Rattle.queues.specs.Ended.{count_ended, AllEnded}
use Rattle.queues.proofs.Ended.{ended_value, ended_more, all_ended}
use Rattle.crew.proofs.Folds.{values_value, values_end}
use Rattle.notifier_model.specs.declared.event.Out.{Out}
use Rattle.notifier_model.specs.declared.event.Out.TheVariants as out
use Rattle.queues.specs.OutboxSeats.{TakerSeat}
use Rattle.queues.specs.OutboxTook.{Took}
use Rattle.queues.specs.declared.outbox.Posted.TheVariants as posted
use Rattle.transport.specs.declared.datagram.Datagram.{Datagram}
use Rattle.transport.specs.Wires.{Grows}
use Rattle.feeds.specs.declared.sending.Fate.{Fate}
use Rattle.feeds.specs.declared.sending.Fate.TheVariants.{Sent, Started, Failed, Held}
use Rattle.feeds.specs.declared.sending.EmitReport.{EmitReport}
use Rattle.feeds.specs.Emitted.{Fates, MayMeet, Writes, WritesAll, line_of, counted, is_start, datagram_sent, sent_datagrams, lines, is_sent, is_started, is_failed, is_held, fails_to_start, fails_to_send, count, AllMeet, IsCounted, WireSeen, WriterSeen, AreMet}
use Rattle.feeds.proofs.Telling.{grows_none, grows_more, grows_same}

abbrev pub one : Out → Fate → Fates
one o f = (o, f) ∷ []

count_more : (is : Out → Fate → Bool) (log more : Fates) → count is (log ++ more) ≡ count is log + count is more
count_more is log more =
    ap length (filter-append (λ (x : Out × Fate). is x.0 x.1) log more)
    ∙ length-append (filter (λ (x : Out × Fate). is x.0 x.1) log) (filter (λ (x : Out × Fate). is x.0 x.1) more)

pub rises_more : (n m k : ℕ) → rises (n + m) k ≡ rises n (rises m k)
rises_more zero m k = let e : 0 + m ≡ m = omega arith in ap (λ x. rises x k) e
rises_more (suc n) m k =
    let e : suc n + m ≡ suc (n + m) = omega arith in ap (λ x. rises x k) e ∙ ap one_more (rises_more n m k)

meet_more : (log more : Fates) → AllMeet log → AllMeet more → AllMeet (log ++ more)
meet_more [] more a b = b
meet_more (x ∷ log) more a b = (a.0, meet_more log more a.1 b)

-- ---- the counts

counted_more : (log : Fates) (o : Out) (f : Fate) (r : EmitReport) → IsCounted log r → IsCounted (log ++ one o f) (counted r f)
counted_more log o Sent r was =
    let l : length (log ++ one o Sent) ≡ length log + 1 = length-append log (one o Sent) in
    let sent : count (λ p g. is_sent g) (log ++ one o Sent) ≡ count (λ p g. is_sent g) log + 1 = count_more (λ p g. is_sent g) log (one o Sent) in
    let started : count (λ p g. is_started g) (log ++ one o Sent) ≡ count (λ p g. is_started g) log + 0 = count_more (λ p g. is_started g) log (one o Sent) in
    let failed : count (λ p g. is_failed g) (log ++ one o Sent) ≡ count (λ p g. is_failed g) log + 0 = count_more (λ p g. is_failed g) log (one o Sent) in
    let held : count (λ p g. is_held g) (log ++ one o Sent) ≡ count (λ p g. is_held g) log + 0 = count_more (λ p g. is_held g) log (one o Sent) in
    record {
      total = (let t = was.total in omega arith);
      sent = (let w = was.sent in omega arith);
      starts = (let w = was.starts in omega arith);
      failed = (let w = was.failed in omega arith);
      held = (let w = was.held in omega arith);
    }
counted_more log o Started r was =
    let l : length (log ++ one o Started) ≡ length log + 1 = length-append log (one o Started) in
    let sent : count (λ p g. is_sent g) (log ++ one o Started) ≡ count (λ p g. is_sent g) log + 0 = count_more (λ p g. is_sent g) log (one o Started) in
    let started : count (λ p g. is_started g) (log ++ one o Started) ≡ count (λ p g. is_started g) log + 1 = count_more (λ p g. is_started g) log (one o Started) in
    let failed : count (λ p g. is_failed g) (log ++ one o Started) ≡ count (λ p g. is_failed g) log + 0 = count_more (λ p g. is_failed g) log (one o Started) in
    let held : count (λ p g. is_held g) (log ++ one o Started) ≡ count (λ p g. is_held g) log + 0 = count_more (λ p g. is_held g) log (one o Started) in
    record {
      total = (let t = was.total in omega arith);
      sent = (let w = was.sent in omega arith);
      starts = (let w = was.starts in omega arith);
      failed = (let w = was.failed in omega arith);
      held = (let w = was.held in omega arith);
    }
counted_more log o Failed r was =
    let l : length (log ++ one o Failed) ≡ length log + 1 = length-append log (one o Failed) in
    let sent : count (λ p g. is_sent g) (log ++ one o Failed) ≡ count (λ p g. is_sent g) log + 0 = count_more (λ p g. is_sent g) log (one o Failed) in
    let started : count (λ p g. is_started g) (log ++ one o Failed) ≡ count (λ p g. is_started g) log + 0 = count_more (λ p g. is_started g) log (one o Failed) in
    let failed : count (λ p g. is_failed g) (log ++ one o Failed) ≡ count (λ p g. is_failed g) log + 1 = count_more (λ p g. is_failed g) log (one o Failed) in
    let held : count (λ p g. is_held g) (log ++ one o Failed) ≡ count (λ p g. is_held g) log + 0 = count_more (λ p g. is_held g) log (one o Failed) in
    record {
      total = (let t = was.total in omega arith);
      sent = (let w = was.sent in omega arith);
      starts = (let w = was.starts in omega arith);
      failed = (let w = was.failed in omega arith);
      held = (let w = was.held in omega arith);
    }
counted_more log o Held r was =
    let l : length (log ++ one o Held) ≡ length log + 1 = length-append log (one o Held) in
    let sent : count (λ p g. is_sent g) (log ++ one o Held) ≡ count (λ p g. is_sent g) log + 0 = count_more (λ p g. is_sent g) log (one o Held) in
    let started : count (λ p g. is_started g) (log ++ one o Held) ≡ count (λ p g. is_started g) log + 0 = count_more (λ p g. is_started g) log (one o Held) in
    let failed : count (λ p g. is_failed g) (log ++ one o Held) ≡ count (λ p g. is_failed g) log + 0 = count_more (λ p g. is_failed g) log (one o Held) in
    let held : count (λ p g. is_held g) (log ++ one o Held) ≡ count (λ p g. is_held g) log + 1 = count_more (λ p g. is_held g) log (one o Held) in
    record {
      total = (let t = was.total in omega arith);
      sent = (let w = was.sent in omega arith);
      starts = (let w = was.starts in omega arith);
      failed = (let w = was.failed in omega arith);
      held = (let w = was.held in omega arith);
    }

-- ---- none is held

held_one : (o : Out) (f : Fate) → is_held f ≡ false → count (λ p g. is_held g) (one o f) ≡ 0
held_one o Sent none = refl
held_one o Started none = refl
held_one o Failed none = refl
held_one o Held none = absurd (cc)

pub none_held_more : (log : Fates) (o : Out) (f : Fate) → count (λ p g. is_held g) log ≡ 0 → is_held f ≡ false → count (λ p g. is_held g) (log ++ one o f) ≡ 0
none_held_more log o f was none = let e = count_more (λ p g. is_held g) log (one o f) in let here = held_one o f none in omega arith

-- ---- the lines

same_text : (old new : Option (List ℕ)) → new ≡ old → Appends old new []
same_text old new same = let P : Option (List ℕ) → Type 0 = λ k. Appends old k [] in subst P (sym same) (appends_none old)

-- where no transfer failed to be written, the line of this out was
wrote : (old new : Option (List ℕ)) (o : Out) (f : Fate) → Writes old new o f → count fails_to_start (one o f) ≡ 0 → Appends old new (line_of o)
wrote old new (out.Answer to octets) f w none = same_text old new w
wrote old new (out.Notify to number terminated tag note octets) f w none = same_text old new w
wrote old new (out.Start tag refer_to) Sent w none = absurd w
wrote old new (out.Start tag refer_to) Started w none = w
wrote old new (out.Start tag refer_to) Failed w none = absurd (omega arith)
wrote old new (out.Start tag refer_to) Held w none = absurd w

-- and of each out before it what that is
writes_more : (a b c : Option (List ℕ)) (log : Fates) (o : Out) (f : Fate) → WritesAll a log b → Writes b c o f → WritesAll a (log ++ one o f) c
writes_more a b c [] o f was last = let P : Option (List ℕ) → Type 0 = λ k. Writes k c o f in (c, subst P was last, refl)
writes_more a b c (x ∷ log) o f was last = (was.0, was.1, writes_more was.0 b c log o f was.2 last)

lines_one : (log : Fates) (o : Out) (f : Fate) → lines (log ++ one o f) ≡ lines log ++ line_of o
lines_one log o f =
    flat_map-append (λ (x : Out × Fate). line_of x.0) log (one o f) ∙ ap (λ l. lines log ++ l) (append-nil (line_of o))

-- ---- what was flushed

none_before : (log : Fates) (o : Out) (f : Fate) → count fails_to_start (log ++ one o f) ≡ 0 → count fails_to_start log ≡ 0
none_before log o f none = let e = count_more fails_to_start log (one o f) in omega arith

module _ {S : Type 0} (flushed : S → Bool) where
  kept : (first old new : S) → new ≡ old → (old ≡ first) ⊎ (flushed old ≡ true) → (new ≡ first) ⊎ (flushed new ≡ true)
  kept first old new same was = ⊎_elim (λ e. inl (same ∙ e)) (λ e. inr (ap flushed same ∙ e)) was

  -- nothing was written, or what was written is flushed: the same holds after one out more
  pub flushed_more : (first old new : S) (o : Out) (f : Fate) (log : Fates) → MayMeet o f
      → (count fails_to_start log ≡ 0 → (old ≡ first) ⊎ (flushed old ≡ true)) → (f ≡ Started → flushed new ≡ true)
      → (is_start o ≡ false → new ≡ old)
      → count fails_to_start (log ++ one o f) ≡ 0 → (new ≡ first) ⊎ (flushed new ≡ true)
  flushed_more first old new o Started log may was written stays none = inr (written refl)
  flushed_more first old new (out.Answer to octets) Failed log may was written stays none =
      kept first old new (stays refl) (was (none_before log (out.Answer to octets) Failed none))
  flushed_more first old new (out.Notify to number terminated tag note octets) Failed log may was written stays none =
      kept first old new (stays refl) (was (none_before log (out.Notify to number terminated tag note octets) Failed none))
  flushed_more first old new (out.Start tag refer_to) Failed log may was written stays none =
      let e : count fails_to_start (log ++ one (out.Start tag refer_to) Failed) ≡ count fails_to_start log + 1 =
      count_more fails_to_start log (one (out.Start tag refer_to) Failed) in absurd (omega arith)
  flushed_more first old new (out.Answer to octets) Sent log may was written stays none =
      kept first old new (stays refl) (was (none_before log (out.Answer to octets) Sent none))
  flushed_more first old new (out.Notify to number terminated tag note octets) Sent log may was written stays none =
      kept first old new (stays refl) (was (none_before log (out.Notify to number terminated tag note octets) Sent none))
  flushed_more first old new (out.Start tag refer_to) Sent log may was written stays none = absurd may
  flushed_more first old new (out.Answer to octets) Held log may was written stays none = absurd may
  flushed_more first old new (out.Notify to number terminated tag note octets) Held log may was written stays none =
      kept first old new (stays refl) (was (none_before log (out.Notify to number terminated tag note octets) Held none))
  flushed_more first old new (out.Start tag refer_to) Held log may was written stays none = absurd may

-- ---- the loop

pub meeting_none : (workers : ℕ) (got : List (Item Out)) (writer : WriterSeen)
    → AreMet workers [] got got writer writer (record { sent = 0; starts = 0; failed = 0; held = 0 })
meeting_none workers got writer = record {
  outs = ([], sym (append-nil got), refl, All-nil (λ (x : Item Out). x.from < workers));
  meet = tt;
  counts = record { total = refl; sent = refl; starts = refl; failed = refl; held = refl };
  writer_failures = refl;
  wrote = refl;
  written = λ none. appends_none writer.contents;
}

module _ {workers : ℕ} {log : Fates} {got got' : List (Item Out)} {writer writer' : WriterSeen} {report : EmitReport}
    (was : AreMet workers log got got' writer writer' report) where
  pub meeting_end : (next : List (Item Out)) (w : ℕ) → w < workers → next ≡ got' ++ end_item w ∷ []
      → AreMet workers log got next writer writer' report
  meeting_end next w low more =
      let items : List (Item Out) = was.outs.0 in record {
        outs = (
          items ++ end_item w ∷ [],
          more ∙ ap (λ l. l ++ end_item w ∷ []) was.outs.1 ∙ append_assoc got items (end_item w ∷ []),
          values_end items w ∙ was.outs.2,
          All-push (λ (x : Item Out). x.from < workers) items (end_item w) was.outs.3 low,
        );
        meet = was.meet;
        counts = was.counts;
        writer_failures = was.writer_failures;
        wrote = was.wrote;
        written = was.written;
      }

  pub meeting_out : (next : List (Item Out)) (w : ℕ) (o : Out) (f : Fate) (after' : WriterSeen)
      → w < workers → next ≡ got' ++ value_item w o ∷ [] → MayMeet o f
      → after'.failures ≡ rises (count fails_to_start (one o f)) writer'.failures
      → Writes writer'.contents after'.contents o f
      → AreMet workers (log ++ one o f) got next writer after' (counted report f)
  meeting_out next w o f after' low more may failed' wrote_it =
      let items : List (Item Out) = was.outs.0 in
      let Q : List ℕ → Type 0 = λ l. Appends writer.contents after'.contents l in
      let starts : ℕ = count fails_to_start (one o f) in
      let all = count_more fails_to_start log (one o f) in record {
        outs = (
          items ++ value_item w o ∷ [],
          more ∙ ap (λ l. l ++ value_item w o ∷ []) was.outs.1 ∙ append_assoc got items (value_item w o ∷ []),
          values_value items w o ∙ ap (λ l. l ++ o ∷ []) was.outs.2 ∙ sym (map-append (λ (x : Out × Fate). x.0) log (one o f)),
          All-push (λ (x : Item Out). x.from < workers) items (value_item w o) was.outs.3 low,
        );
        meet = meet_more log (one o f) was.meet (may, tt);
        counts = counted_more log o f report was.counts;
        writer_failures = failed' ∙ ap (rises starts) was.writer_failures
            ∙ sym (rises_more starts (count fails_to_start log) writer.failures)
            ∙ ap (λ n. rises n writer.failures) (omega arith);
        wrote = writes_more writer.contents writer'.contents after'.contents log o f was.wrote wrote_it;
        written = λ none.
            subst Q (sym (lines_one log o f))
            (appends_more writer.contents writer'.contents after'.contents (lines log) (line_of o)
            (was.written (omega arith)) (wrote writer'.contents after'.contents o f wrote_it (omega arith)));
      }

-- ---- the wire

-- it took what was sent of these, and failed at the others
pub record HasSent (log : Fates) (wire wire' : WireSeen) : Type 0 where
  pub taken : Grows wire.taken wire'.taken (sent_datagrams log)
  pub failures : wire'.failures ≡ rises (count fails_to_send log) wire.failures

pub sent_none : (wire : WireSeen) → HasSent [] wire wire
sent_none wire = record { taken = grows_none wire.taken; failures = refl }

pub sent_more : {log : Fates} {wire wire' after : WireSeen} → HasSent log wire wire' → (o : Out) (f : Fate)
    → Grows wire'.taken after.taken (sent_datagrams (one o f)) → after.failures ≡ rises (count fails_to_send (one o f)) wire'.failures
    → HasSent (log ++ one o f) wire after
sent_more {log = log} {wire = wire} {wire' = wire'} {after = after} was o f took failed =
    let P : List Datagram → Type 0 = λ l. Grows wire.taken after.taken l in
    let sends : ℕ = count fails_to_send (one o f) in record {
      taken = subst P (sym (filter_map-append (λ (x : Out × Fate). datagram_sent x.0 x.1) log (one o f)))
          (grows_more wire.taken wire'.taken after.taken (sent_datagrams log) (sent_datagrams (one o f)) was.taken took);
      failures = failed ∙ ap (rises sends) was.failures
          ∙ sym (rises_more sends (count fails_to_send log) wire.failures)
          ∙ ap (λ n. rises n wire.failures) (let e = count_more fails_to_send log (one o f) in omega arith);
    }

-- ---- the taker

-- what became of the outs so far, the taker's seat at the start and now, and how many workers haven't ended
pub record Running (log : Fates) (t0 t : TakerSeat) (left : ℕ) (told told' : Option (List Datagram)) (writer writer' : WriterSeen) (report : EmitReport) : Type 0 where
  pub outbox : t.outbox ≡ t0.outbox
  pub workers : t.workers ≡ t0.workers
  pub left_is : left + count_ended t0.workers t.got ≡ t0.workers
  pub given : Grows told told' []
  pub met : AreMet t0.workers log t0.got t.got writer writer' report

pub running_first : (t : TakerSeat) (left : ℕ) (told : Option (List Datagram)) (writer : WriterSeen)
    → left ≡ t.workers → count_ended t.workers t.got ≡ 0 → Running [] t t left told told writer writer (record { sent = 0; starts = 0; failed = 0; held = 0 })
running_first t left told writer all none = record {
  outbox = refl;
  workers = refl;
  left_is = omega arith;
  given = grows_none told;
  met = meeting_none t.workers t.got writer;
}

module _ {log : Fates} {t0 t : TakerSeat} {left : ℕ} {told told' : Option (List Datagram)} {writer writer' : WriterSeen} {report : EmitReport}
    (was : Running log t0 t left told told' writer writer' report) where
  pub running_end : (u : TakerSeat) (left' w : ℕ) → Took t (posted.Ended w) u → left' + 1 ≡ left
      → Running log t0 u left' told told' writer writer' report
  running_end u left' w took one =
      let low : w < t0.workers = subst (λ n. w < n) was.workers took.1.0 in
      let got : u.got ≡ t.got ++ end_item w ∷ [] = ap (λ (x : TakerSeat). x.got) took.0 in
      let more : count_ended t0.workers u.got ≡ count_ended t0.workers t.got + 1 =
      ap (count_ended t0.workers) got ∙ ended_more t0.workers t.got (end_item w) refl low took.1.1 in record {
        outbox = ap (λ (x : TakerSeat). x.outbox) took.0 ∙ was.outbox;
        workers = ap (λ (x : TakerSeat). x.workers) took.0 ∙ was.workers;
        left_is = (let l = was.left_is in omega arith);
        given = was.given;
        met = meeting_end was.met u.got w low got;
      }

  pub running_out : (u : TakerSeat) (w : ℕ) (o : Out) (f : Fate) (told'' : Option (List Datagram)) (after' : WriterSeen)
      → Took t (posted.Out w o) u → MayMeet o f → Grows told' told'' []
      → after'.failures ≡ rises (count fails_to_start (one o f)) writer'.failures
      → Writes writer'.contents after'.contents o f
      → Running (log ++ one o f) t0 u left told told'' writer after' (counted report f)
  running_out u w o f told'' after' took may none failed wrote_it =
      let got : u.got ≡ t.got ++ value_item w o ∷ [] = ap (λ (x : TakerSeat). x.got) took.0 in
      let same : count_ended t0.workers u.got ≡ count_ended t0.workers t.got =
      ap (count_ended t0.workers) got ∙ ended_value t0.workers t.got (value_item w o) refl in record {
        outbox = ap (λ (x : TakerSeat). x.outbox) took.0 ∙ was.outbox;
        workers = ap (λ (x : TakerSeat). x.workers) took.0 ∙ was.workers;
        left_is = (let l = was.left_is in omega arith);
        given = grows_same told told' told'' [] was.given none;
        met = meeting_out was.met u.got w o f after' (subst (λ n. w < n) was.workers took.1.0) got may failed wrote_it;
      }

  -- the same taker by another name, where as many are left
  pub running_as : (u : TakerSeat) (left' : ℕ) → u ≡ t → left' ≡ left → Running log t0 u left' told told' writer writer' report
  running_as u left' same as_many =
      let P : TakerSeat → Type 0 = λ k. Running log t0 k left' told told' writer writer' report in
      let Q : ℕ → Type 0 = λ n. Running log t0 t n told told' writer writer' report in subst P (sym same) (subst Q (sym as_many) was)

  pub running_done : left ≡ 0 → AllEnded t0.workers t.got
  running_done none = all_ended t0.workers t.got (let l = was.left_is in omega arith)
