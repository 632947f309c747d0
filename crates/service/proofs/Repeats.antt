-- What is sent again is of a NOTIFY that was put.
use Rattle.std.proofs.Common.{◌≡◌, ◌≤◌, ℕ, zero, suc, Bool, true, false, List, [], ◌∷◌, ◌++◌, Option, Some, None, refl, ap, sym, ◌∙◌, subst, arith, append_assoc}
use Rattle.std.specs.Prelude.{option_to_list}
use Rattle.std.specs.List.{AllByRecursion, cons_option}
use Rattle.notifier_model.specs.declared.event.Note.{Note as KnownNote}
use Rattle.notifier_model.specs.declared.event.Out.{Out}
use Rattle.notifier_model.specs.declared.event.Out.TheVariants as out
use Rattle.feeds.specs.declared.sending.Fate.{Fate}
use Rattle.transport.specs.declared.datagram.Datagram.{Datagram}
use Rattle.transport.specs.Wires.{datagram}
use Rattle.transactions.specs.declared.allowance.Allowance.{Allowance}
use Rattle.transactions.specs.declared.open.Open.{Open}
use Rattle.transactions.specs.Machine.{State, empty}
use Rattle.transactions.specs.Runs.{Call, state_after, repeated, is_end, earliest, keeping, times}
use Rattle.transactions.proofs.Histories.{each_repeat}
use Rattle.service.specs.Sending.{Act, Put, Held, Released, Noted, Repeated, Tried, GaveUp, Gone, met, kept_by, call_of, calls, went_out, AreAsked, ends_it, IsOfNotify, EachRepeatIsOfANotify, EachTryIsOfANotify}
use Rattle.service.proofs.Acts.{state_first}

-- what was asked for behind a part
asked_behind : (a b : List Act) (s : State) → AreAsked s (a ++ b) → AreAsked (state_after (calls a) s) b
asked_behind [] b s asked = asked
asked_behind (act ∷ a) b s asked =
    let P : State → Type 0 = λ u. AreAsked u b in
    subst P (sym (state_first (call_of act) (calls a) s)) (asked_behind a b (state_after (option_to_list (call_of act)) s) asked.1)

-- what was asked for behind outs that were put at the start was so behind nothing
asked_anew : (outs : List Out) (acts : List Act) (s : State) → AreAsked (state_after (calls (went_out outs)) s) acts → AreAsked s (went_out outs ++ acts)
asked_anew [] acts s asked = asked
asked_anew (o ∷ outs) acts s asked =
    let P : State → Type 0 = λ u. AreAsked u acts in
    (tt, asked_anew outs acts (state_after (option_to_list (kept_by 0 o)) s) (subst P (state_first (kept_by 0 o) (calls (went_out outs)) s) asked))

-- the act that a call is of
record Found (acts : List Act) (earlier : List Call) (call : Call) (since : List Call) : Type 0 where
  pub before : List Act
  pub act : Act
  pub after : List Act
  pub split : acts ≡ before ++ act ∷ after
  pub is : call_of act ≡ Some call
  pub rest : calls after ≡ since

found_later : (first : Act) (acts : List Act) {earlier : List Call} {call : Call} {since : List Call} {earlier' : List Call}
    → Found acts earlier call since → Found (first ∷ acts) earlier' call since
found_later first acts f = record {
  before = first ∷ f.before;
  act = f.act;
  after = f.after;
  split = ap (λ l. first ∷ l) f.split;
  is = f.is;
  rest = f.rest;
}

found_at : (act : Act) (acts : List Act) (c : Option Call) → call_of act ≡ c → (earlier : List Call) (call : Call) (since : List Call)
    → cons_option c (calls acts) ≡ earlier ++ call ∷ since → ((e : List Call) → calls acts ≡ e ++ call ∷ since → Found acts e call since)
    → Found (act ∷ acts) earlier call since
found_at act acts None is earlier call since e later = found_later act acts (later earlier e)
found_at act acts (Some c) is [] call since e later = record { before = []; act = act; after = acts; split = refl; is = cc; rest = cc }
found_at act acts (Some c) is (d ∷ earlier) call since e later = found_later act acts (later earlier cc)

found : (acts : List Act) (earlier : List Call) (call : Call) (since : List Call) → calls acts ≡ earlier ++ call ∷ since → Found acts earlier call since
found [] [] call since e = absurd cc
found [] (c ∷ earlier) call since e = absurd cc
found (act ∷ acts) earlier call since e = found_at act acts (call_of act) refl earlier call since e (λ rest p. found acts rest call since p)

-- a NOTIFY that is kept was put, or had waited
put_is : (act : Act) (t : Open) → call_of act ≡ Some (keeping t)
    → (terminated : Bool) × (note : KnownNote) × (fate : Fate) × (late : Bool) × (act ≡ met late t.first (out.Notify t.to t.number terminated t.tag note t.bytes) fate)
put_is (Put now (out.Answer to octets) fate) t e = absurd cc
put_is (Put now (out.Notify to number terminated tag note octets) fate) t e = (terminated, note, fate, false, cc)
put_is (Put now (out.Start tag refer_to) fate) t e = absurd cc
put_is (Held now o) t e = absurd cc
put_is (Released now (out.Answer to octets) fate) t e = absurd cc
put_is (Released now (out.Notify to number terminated tag note octets) fate) t e = (terminated, note, fate, true, cc)
put_is (Released now (out.Start tag refer_to) fate) t e = absurd cc
put_is (Noted tag call_id number status) t e = absurd cc
put_is (Repeated now sent fails) t e = absurd cc
put_is (Tried now sent fails) t e = absurd cc
put_is (GaveUp now) t e = absurd cc
put_is (Gone tag) t e = absurd cc

-- no call is_end it, so no act does
unended : (tag : List ℕ) (number : ℕ) (acts : List Act) → AllByRecursion (λ call. is_end tag number call ≡ false) (calls acts)
    → AllByRecursion (λ act. ends_it tag number act ≡ false) acts
unended tag number [] none = tt
unended tag number (Put now (out.Answer to octets) fate ∷ acts) none = (refl, unended tag number acts none)
unended tag number (Put now (out.Notify to n terminated other note octets) fate ∷ acts) none = (refl, unended tag number acts none.1)
unended tag number (Put now (out.Start other refer_to) fate ∷ acts) none = (refl, unended tag number acts none)
unended tag number (Held now o ∷ acts) none = (refl, unended tag number acts none)
unended tag number (Released now (out.Answer to octets) fate ∷ acts) none = (refl, unended tag number acts none)
unended tag number (Released now (out.Notify to n terminated other note octets) fate ∷ acts) none = (refl, unended tag number acts none.1)
unended tag number (Released now (out.Start other refer_to) fate ∷ acts) none = (refl, unended tag number acts none)
unended tag number (Noted other call_id n status ∷ acts) none = (none.0, unended tag number acts none.1)
unended tag number (Repeated now sent fails ∷ acts) none = (refl, unended tag number acts none.1)
unended tag number (Tried now sent fails ∷ acts) none = (refl, unended tag number acts none)
unended tag number (GaveUp now ∷ acts) none = (refl, unended tag number acts none.1)
unended tag number (Gone other ∷ acts) none = (none.0, unended tag number acts none.1)

-- none comes again before half a second has passed
half_a_second : (n : ℕ) → 500 ≤ earliest n
half_a_second zero = omega arith
half_a_second (suc zero) = omega arith
half_a_second (suc (suc zero)) = omega arith
half_a_second (suc (suc (suc n))) = omega arith

-- what is asked for behind these, where none waited at the start
of_notify : (allowance : Allowance) (before : List Act) (now : ℕ) (sent : Datagram)
    → ((t : Open) × (repeated (state_after (calls before) (empty allowance)) now ≡ Some t) × (sent ≡ datagram t.to t.bytes)) → IsOfNotify before now sent
of_notify allowance before now sent here =
    let t = here.0 in
    let order = each_repeat allowance (calls before) now t here.1 in
    let f = found before order.earlier (keeping t) order.since order.split in
    let put = put_is f.act t f.is in
    let P : Datagram → Type 0 = λ d. before ≡ f.before ++ met put.3 t.first (out.Notify d.peer t.number put.0 t.tag put.1 d.octets) put.2 ∷ f.after in
    let C : List Call → Type 0 = λ l. AllByRecursion (λ call. is_end t.tag t.number call ≡ false) l in
    let long = half_a_second (times t.tag t.number order.since (state_after (order.earlier ++ keeping t ∷ []) (empty allowance))) in
    let waited = order.waited in record {
      earlier = f.before;
      since = f.after;
      first = t.first;
      tag = t.tag;
      number = t.number;
      terminated = put.0;
      note = put.1;
      fate = put.2;
      had_waited = put.3;
      split = subst P (sym here.2) (f.split ∙ ap (λ act. f.before ++ act ∷ f.after) put.4);
      unanswered = unended t.tag t.number f.after (subst C (sym f.rest) order.unanswered);
      waited = omega (arith, long, waited);
      in_time = order.in_time;
    }

each_put : (allowance : Allowance) (before after : List Act) (now : ℕ) (sent : Datagram) (fails : Bool)
    → AreAsked (empty allowance) (before ++ Repeated now sent fails ∷ after) → IsOfNotify before now sent
each_put allowance before after now sent fails asked =
    of_notify allowance before now sent (asked_behind before (Repeated now sent fails ∷ after) (empty allowance) asked).0

each_tried : (allowance : Allowance) (before after : List Act) (now : ℕ) (sent : Datagram) (fails : Bool)
    → AreAsked (empty allowance) (before ++ Tried now sent fails ∷ after) → IsOfNotify before now sent
each_tried allowance before after now sent fails asked =
    of_notify allowance before now sent (asked_behind before (Tried now sent fails ∷ after) (empty allowance) asked).0

pub each_try_is : EachTryIsOfANotify
each_try_is allowance unanswered before after now sent fails asked =
    let rest : List Act = before ++ Tried now sent fails ∷ after in
    each_tried allowance (went_out unanswered ++ before) after now sent fails
    (subst (AreAsked (empty allowance)) (sym (append_assoc (went_out unanswered) before (Tried now sent fails ∷ after))) (asked_anew unanswered rest (empty allowance) asked))

pub each_repeat_is : EachRepeatIsOfANotify
each_repeat_is allowance unanswered before after now sent fails asked =
    let rest : List Act = before ++ Repeated now sent fails ∷ after in
    each_put allowance (went_out unanswered ++ before) after now sent fails
    (subst (AreAsked (empty allowance)) (sym (append_assoc (went_out unanswered) before (Repeated now sent fails ∷ after))) (asked_anew unanswered rest (empty allowance) asked))
