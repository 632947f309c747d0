-- What the thread that sends did so far.
use Rattle.std.proofs.Common.{◌≡◌, ℕ, ◌+◌, Bool, true, false, List, [], ◌∷◌, ◌++◌, length, map, Option, Some, None, refl, ap, sym, ◌∙◌, ◌⊎◌, subst, length-append, arith}
use Rattle.std.specs.Prelude.{option_to_list, option_and_then, is_some}
use Rattle.std.specs.List.{filter, cons_option}
use Rattle.std.proofs.lemmas.List.{append-nil, map-append}
use Rattle.std.proofs.lemmas.List.Elements.{filter-append, filter_map-append}
use Rattle.notifier_model.specs.declared.event.Out.{Out}
use Rattle.notifier_model.specs.declared.event.Out.TheVariants as out
use Rattle.transport.specs.Devices.{rises}
use Rattle.transport.specs.declared.datagram.Datagram.{Datagram}
use Rattle.transport.specs.Wires.{datagram, Grows}
use Rattle.feeds.specs.declared.sending.Fate.{Fate}
use Rattle.feeds.specs.declared.sending.Fate.TheVariants.{Sent, Started, Failed}
use Rattle.feeds.specs.declared.sending.Fate.TheVariants as became
use Rattle.feeds.specs.Emitted.{Fates, WireSeen, MayMeet, Writes, count, datagram_sent, sent_datagrams, fails_to_send, fails_to_start, is_start, is_held}
use Rattle.feeds.proofs.Emitting.{one, rises_more, flushed_more}
use Rattle.feeds.proofs.Telling.{grows_none, grows_more}
use Rattle.transactions.specs.declared.open.Open.{Open}
use Rattle.transactions.specs.Timers.{is_over}
use Rattle.transactions.specs.Machine.{State, answer, due, turn}
use Rattle.transactions.specs.Runs.{Call, after, state_after, repeated, unless_over}
use Rattle.first_contact.specs.Steps.{notice_of}
use Rattle.service.specs.declared.post.Note.{Note}
use Rattle.service.specs.Noted.{answer_of}
use Rattle.service.specs.Taken.{failures_then}
use Rattle.service.specs.Sending.{Act, Put, Held, Released, Noted, Repeated, Tried, GaveUp, Gone, noting, fate_of, fates, sent_by, sent_again, datagrams, fails_at, failures, call_of, calls, kept_after, taking, WentOut, AreAsked, Does, WithoutRepeatsLaw}

-- ---- two parts of what it did

pub state_append : (a b : List Call) (s : State) → state_after (a ++ b) s ≡ state_after b (state_after a s)
state_append [] b s = refl
state_append (c ∷ a) b s = state_append a b (after c s)

failures_more : (a b : List Act) → failures (a ++ b) ≡ failures b + failures a
failures_more a b =
    let e = ap length (filter-append fails_at a b) ∙ length-append (filter fails_at a) (filter fails_at b) in omega arith

pub state_first : (c : Option Call) (cs : List Call) (s : State) → state_after (cons_option c cs) s ≡ state_after cs (state_after (option_to_list c) s)
state_first None cs s = refl
state_first (Some c) cs s = refl

asked_more : (a b : List Act) (s : State) → AreAsked s a → AreAsked (state_after (calls a) s) b → AreAsked s (a ++ b)
asked_more [] b s first then = then
asked_more (act ∷ a) b s first then =
    let P : State → Type 0 = λ u. AreAsked u b in
    (first.0, asked_more a b (state_after (option_to_list (call_of act)) s) first.1 (subst P (state_first (call_of act) (calls a) s) then))

pub does_none : (s : State) (w : WireSeen) → Does [] s s w w
does_none s w = record { taken = grows_none w.taken; failed = refl; asked = tt; open_now = refl }

pub does_more : {a b : List Act} {s t u : State} {v w x : WireSeen} → Does a s t v w → Does b t u w x → Does (a ++ b) s u v x
does_more {a = a} {b = b} {s = s} {t = t} {v = v} {w = w} {x = x} first then =
    let P : List Datagram → Type 0 = λ l. Grows v.taken x.taken l in
    let Q : State → Type 0 = λ z. AreAsked z b in record {
      taken = subst P (sym (filter_map-append sent_by a b)) (grows_more v.taken w.taken x.taken (datagrams a) (datagrams b) first.taken then.taken);
      failed = then.failed ∙ ap (rises (failures b)) first.failed ∙ sym (rises_more (failures b) (failures a) v.failures)
          ∙ ap (λ n. rises n v.failures) (sym (failures_more a b));
      asked = asked_more a b s first.asked (subst Q first.open_now then.asked);
      open_now = then.open_now ∙ ap (state_after (calls b)) first.open_now ∙ sym (state_append (calls a) (calls b) s)
          ∙ ap (λ l. state_after l s) (sym (filter_map-append call_of a b));
    }

-- ---- notes

noted_calls : (notes : List Note) → calls (map noting notes) ≡ map answer_of notes
noted_calls [] = refl
noted_calls (n ∷ notes) = ap (λ l. answer_of n ∷ l) (noted_calls notes)

pub noted_fates : (notes : List Note) → fates (map noting notes) ≡ []
noted_fates [] = refl
noted_fates (n ∷ notes) = noted_fates notes

noted_datagrams : (notes : List Note) → datagrams (map noting notes) ≡ []
noted_datagrams [] = refl
noted_datagrams (n ∷ notes) = noted_datagrams notes

noted_failures : (notes : List Note) → failures (map noting notes) ≡ 0
noted_failures [] = refl
noted_failures (n ∷ notes) = noted_failures notes

noted_asked : (notes : List Note) (s : State) → AreAsked s (map noting notes)
noted_asked [] s = tt
noted_asked (n ∷ notes) s = (tt, noted_asked notes (state_after (option_to_list (call_of (noting n))) s))

pub does_notes : (notes : List Note) (s t : State) (w : WireSeen) → t ≡ state_after (map answer_of notes) s → Does (map noting notes) s t w w
does_notes notes s t w is =
    let P : List Datagram → Type 0 = λ l. Grows w.taken w.taken l in record {
      taken = subst P (sym (noted_datagrams notes)) (grows_none w.taken);
      failed = ap (λ n. rises n w.failures) (sym (noted_failures notes));
      asked = noted_asked notes s;
      open_now = is ∙ ap (λ l. state_after l s) (sym (noted_calls notes));
    }

pub none_more : (a b : List Act) → fates a ≡ [] → fates b ≡ [] → fates (a ++ b) ≡ []
none_more a b none none' = filter_map-append fate_of a b ∙ ap (λ l. l ++ fates b) none ∙ none'

-- ---- an out

put_failures : (now : ℕ) (o : Out) (f : Fate) → failures (Put now o f ∷ []) ≡ count fails_to_send (one o f)
put_failures now o Sent = refl
put_failures now o Started = refl
put_failures now o became.Held = refl
put_failures now (out.Answer to octets) Failed = refl
put_failures now (out.Notify to number terminated tag note octets) Failed = refl
put_failures now (out.Start tag refer_to) Failed = refl

pub does_put : (now : ℕ) (o : Out) (f : Fate) (s t : State) (v w : WireSeen) → Grows v.taken w.taken (sent_datagrams (one o f))
    → w.failures ≡ rises (count fails_to_send (one o f)) v.failures → t ≡ kept_after now o s → Does (Put now o f ∷ []) s t v w
does_put now o f s t v w taken failed is = record {
  taken = taken;
  failed = failed ∙ ap (λ n. rises n v.failures) (sym (put_failures now o f));
  asked = (tt, tt);
  open_now = is ∙ sym (state_first (call_of (Put now o f)) [] s);
}

-- ---- an out that is held back, and one that had waited

pub taken_fates : (now : ℕ) (o : Out) (f : Fate) → fates (taking now o f ∷ []) ≡ one o f
taken_fates now o Sent = refl
taken_fates now o Started = refl
taken_fates now o Failed = refl
taken_fates now o became.Held = refl

pub taken_put : (now : ℕ) (o : Out) (f : Fate) → is_held f ≡ false → taking now o f ≡ Put now o f
taken_put now o Sent none = refl
taken_put now o Started none = refl
taken_put now o Failed none = refl
taken_put now o became.Held none = absurd (cc)

put_state : (now : ℕ) (o : Out) (f : Fate) (s t : State) → t ≡ state_after (calls (Put now o f ∷ [])) s → t ≡ kept_after now o s
put_state now o f s t is = is ∙ state_first (call_of (Put now o f)) [] s

pub does_taking : (now : ℕ) (o : Out) (f : Fate) (s t : State) (v w : WireSeen) → Grows v.taken w.taken (sent_datagrams (one o f))
    → w.failures ≡ rises (count fails_to_send (one o f)) v.failures → t ≡ state_after (calls (taking now o f ∷ [])) s → Does (taking now o f ∷ []) s t v w
does_taking now o Sent s t v w taken failed is = does_put now o Sent s t v w taken failed (put_state now o Sent s t is)
does_taking now o Started s t v w taken failed is = does_put now o Started s t v w taken failed (put_state now o Started s t is)
does_taking now o Failed s t v w taken failed is = does_put now o Failed s t v w taken failed (put_state now o Failed s t is)
does_taking now o became.Held s t v w taken failed is = record { taken = taken; failed = failed; asked = (tt, tt); open_now = is }

late_failures : (now : ℕ) (o : Out) (f : Fate) → failures (Released now o f ∷ []) ≡ count fails_to_send (one o f)
late_failures now o Sent = refl
late_failures now o Started = refl
late_failures now o became.Held = refl
late_failures now (out.Answer to octets) Failed = refl
late_failures now (out.Notify to number terminated tag note octets) Failed = refl
late_failures now (out.Start tag refer_to) Failed = refl

pub does_late : (now : ℕ) (o : Out) (f : Fate) (s t : State) (v w : WireSeen) → Grows v.taken w.taken (sent_datagrams (one o f))
    → w.failures ≡ rises (count fails_to_send (one o f)) v.failures → t ≡ kept_after now o s → WentOut o f → Does (Released now o f ∷ []) s t v w
does_late now o f s t v w taken failed is went = record {
  taken = taken;
  failed = failed ∙ ap (λ n. rises n v.failures) (sym (late_failures now o f));
  asked = (went, tt);
  open_now = is ∙ sym (state_first (call_of (Released now o f)) [] s);
}

-- only a NOTIFY is held back
pub held_may : (o : Out) → is_some (notice_of o) ≡ true → MayMeet o became.Held
held_may (out.Answer to octets) is = absurd (cc)
held_may (out.Notify to number terminated tag note octets) is = tt
held_may (out.Start tag refer_to) is = absurd (cc)

pub held_writes : (o : Out) (c : Option (List ℕ)) → is_some (notice_of o) ≡ true → Writes c c o became.Held
held_writes (out.Answer to octets) c is = absurd (cc)
held_writes (out.Notify to number terminated tag note octets) c is = refl
held_writes (out.Start tag refer_to) c is = absurd (cc)

-- ---- what is due

unless_is : (now : ℕ) (t : Open) → is_over now t ≡ false → unless_over now t ≡ Some t
unless_is now t early = rw early refl

module _ (now : ℕ) (t : Open) (s u : State) (is_due : due s now ≡ Some t) (turned : u ≡ turn s now) where
  repeated_is : is_over now t ≡ false → repeated s now ≡ Some t
  repeated_is early = ap (option_and_then (unless_over now)) is_due ∙ unless_is now t early

  pub does_repeat : (fails : Bool) (v w : WireSeen) → is_over now t ≡ false → Grows v.taken w.taken (sent_again t fails)
      → w.failures ≡ failures_then fails v.failures → Does (Repeated now (datagram t.to t.bytes) fails ∷ []) s u v w
  does_repeat false v w early taken failed =
      record { taken = taken; failed = failed; asked = ((t, repeated_is early, refl), tt); open_now = turned }
  does_repeat true v w early taken failed =
      record { taken = taken; failed = failed; asked = ((t, repeated_is early, refl), tt); open_now = turned }

  pub does_give_up : (w : WireSeen) → is_over now t ≡ true → Does (GaveUp now ∷ []) s u w w
  does_give_up w over = record { taken = grows_none w.taken; failed = refl; asked = ((t, is_due, over), tt); open_now = turned }

-- it is tried, and stays due
module _ (now : ℕ) (t : Open) (s : State) (is_due : due s now ≡ Some t) where
  pub does_try : (fails : Bool) (v w : WireSeen) → is_over now t ≡ false → Grows v.taken w.taken (sent_again t fails)
      → w.failures ≡ failures_then fails v.failures → Does (Tried now (datagram t.to t.bytes) fails ∷ []) s s v w
  does_try false v w early taken failed =
      record { taken = taken; failed = failed; asked = ((t, repeated_is now t s (turn s now) is_due refl early, refl), tt); open_now = refl }
  does_try true v w early taken failed =
      record { taken = taken; failed = failed; asked = ((t, repeated_is now t s (turn s now) is_due refl early, refl), tt); open_now = refl }

-- ---- a subscription that is gone

pub does_gone : (tag : List ℕ) (s t : State) (w : WireSeen) → t ≡ answer s tag 0 481 → Does (Gone tag ∷ []) s t w w
does_gone tag s t w is = record { taken = grows_none w.taken; failed = refl; asked = (tt, tt); open_now = is }

-- ---- what was flushed

module _ {S : Type 0} (flushed : S → Bool) (first old : S) (acts : List Act) (was : count fails_to_start (fates acts) ≡ 0 → (old ≡ first) ⊎ (flushed old ≡ true)) where
  pub flushed_on : (more : List Act) → fates more ≡ [] → count fails_to_start (fates (acts ++ more)) ≡ 0 → (old ≡ first) ⊎ (flushed old ≡ true)
  flushed_on more none =
      let P : Fates → Type 0 = λ l. count fails_to_start l ≡ 0 → (old ≡ first) ⊎ (flushed old ≡ true) in
      subst P (sym (filter_map-append fate_of acts more ∙ ap (λ l. fates acts ++ l) none ∙ append-nil (fates acts))) was

  pub flushed_taking : (new : S) (now : ℕ) (o : Out) (f : Fate) → MayMeet o f → (f ≡ Started → flushed new ≡ true) → (is_start o ≡ false → new ≡ old)
      → count fails_to_start (fates (acts ++ taking now o f ∷ [])) ≡ 0 → (new ≡ first) ⊎ (flushed new ≡ true)
  flushed_taking new now o f may written stays =
      let P : Fates → Type 0 = λ l. count fails_to_start l ≡ 0 → (new ≡ first) ⊎ (flushed new ≡ true) in
      subst P (sym (filter_map-append fate_of acts (taking now o f ∷ []) ∙ ap (λ l. fates acts ++ l) (taken_fates now o f)))
      (flushed_more flushed first old new o f (fates acts) may was written stays)

-- ---- all of it but repeats

pub without_repeats : WithoutRepeatsLaw
without_repeats [] = refl
without_repeats (Put now o fate ∷ acts) = ap (cons_option (datagram_sent o fate)) (without_repeats acts)
without_repeats (Held now o ∷ acts) = without_repeats acts
without_repeats (Released now o fate ∷ acts) = without_repeats acts
without_repeats (Noted tag call_id number status ∷ acts) = without_repeats acts
without_repeats (Repeated now sent fails ∷ acts) = without_repeats acts
without_repeats (Tried now sent fails ∷ acts) = without_repeats acts
without_repeats (GaveUp now ∷ acts) = without_repeats acts
without_repeats (Gone tag ∷ acts) = without_repeats acts

-- ---- notes, one by one

pub noted_more : (notes : List Note) (n : Note) (s t u : State) → t ≡ state_after (map answer_of notes) s → u ≡ answer t n.tag n.number n.status
    → u ≡ state_after (map answer_of (notes ++ n ∷ [])) s
noted_more notes n s t u was is =
    is ∙ ap (λ z. answer z n.tag n.number n.status) was
    ∙ sym (ap (λ l. state_after l s) (map-append answer_of notes (n ∷ [])) ∙ state_append (map answer_of notes) (answer_of n ∷ []) s)
