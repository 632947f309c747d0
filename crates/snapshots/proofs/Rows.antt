-- Rows are read again.
use Rattle.std.proofs.Common.{◌≡◌, ℕ, ◌<◌, ◌≤◌, Bool, true, false, cond, List, Option, Some, None, refl, sym, ap, subst, ◌∙◌, arith}
use Rattle.std.specs.Prelude.{nat_lt, ◌&&◌}
use Rattle.std.proofs.lemmas.Bool.Decides.{nat_tests}
use Rattle.sip_text.specs.declared.address.Addr.{Addr}
use Rattle.sip_text.specs.Tokens.{is_token}
use Rattle.sip_text.proofs.Cuts.{test_some}
use Rattle.sip_text.proofs.Pieces.{some_is, and_both}
use Rattle.event_headers.specs.Values.{EventValue}
use Rattle.subscription.specs.declared.terms.Usage.{Usage}
use Rattle.subscription.specs.declared.terms.Want.{Want}
use Rattle.subscription.specs.State.{State}
use Rattle.notifier_model.specs.declared.row.Row.{Row}
use Rattle.notifier_model.specs.declared.row.Unanswered.{Unanswered}
use Rattle.snapshots.specs.Forms.{IsForm}
use Rattle.snapshots.specs.Rows.{UsageParts, usage_of, usage_at, usage_text, IsUsage, event_of, event_at, event_text, is_some_token, is_event, IsEvent, WantParts, want_of, want_at, want_text, IsWant, StateParts, state_of, state_at, state_text, IsState, unanswered_of, unanswered_at, unanswered_text, IsUnanswered, RowParts, row_of, row_at, row_text, IsRow}
use Rattle.snapshots.proofs.Forms.{number_form, count_form, text_form, address_form, option_form, both_form, IsMade, made_form, form_under, list_form}

-- where anything is made of its parts
always : {A B : Type 0} (make : A → B) (parts : B → A) → ((a : A) → parts (make a) ≡ a) → ((b : B) → make (parts b) ≡ b) → IsMade (λ a. Some (make a)) parts (λ b. Unit {0})
always make parts there back = record {
  made = λ a b e. (sym (ap parts (some_is (make a) b e)) ∙ there a, tt);
  again = λ b h. ap (λ c. Some c) (back b);
}

-- ---- a dialog

usage_parts : Usage → UsageParts
usage_parts u = (u.call_id, (u.local_tag, (u.remote_tag, (u.local, (u.remote, (u.target, (u.routes, u.remote_cseq)))))))

usage_made : IsMade usage_of usage_parts (λ u. Unit {0})
unfolding usage_parts
usage_made = record { made = λ a b e. (sym (ap usage_parts (some_is _ b e)), tt); again = λ b h. refl }

pub usage_form : IsForm usage_text IsUsage usage_at
unfolding usage_at usage_parts
usage_form =
    form_under _ _ _ _
    (λ u h. record { call_id = h.0.0; local_tag = h.0.1.0; remote_tag = h.0.1.1.0; local = h.0.1.1.1.0; remote = h.0.1.1.1.1.0; target = h.0.1.1.1.1.1.0; routes = h.0.1.1.1.1.1.1.0; remote_cseq = h.0.1.1.1.1.1.1.1 })
    (λ u h. ((h.call_id, (h.local_tag, (h.remote_tag, (h.local, (h.remote, (h.target, (h.routes, h.remote_cseq))))))), tt))
    (made_form usage_made (both_form text_form (both_form text_form (both_form text_form (both_form text_form (both_form text_form (both_form text_form (both_form (list_form _ _ _ text_form) count_form))))))))

-- ---- what is watched

event_parts : EventValue → List ℕ × Option (List ℕ)
event_parts e = (e.package, e.id)

event_made : IsMade event_of event_parts (λ e. is_event e ≡ true)
unfolding event_of event_parts
event_made = record {
  made = λ a b e. (let k = test_some (is_token a.0 && is_some_token a.1) (record { «package» = a.0; id = a.1 }) b e in (sym (ap event_parts k.1), subst (λ v. is_event v ≡ true) k.1 k.0));
  again = λ b h. rw h refl;
}

pub event_form : IsForm event_text IsEvent event_at
unfolding event_at event_parts
event_form =
    form_under _ _ _ _
    (λ e h. record { «package» = h.0.0; id = h.0.1; tokens = h.1 })
    (λ e h. ((h.package, h.id), h.tokens))
    (made_form event_made (both_form text_form option_form))

want_parts : Want → WantParts
want_parts w = (w.event, (w.resource, (w.to, w.max_cseq)))

want_made : IsMade want_of want_parts (λ w. Unit {0})
unfolding want_parts
want_made = record { made = λ a b e. (sym (ap want_parts (some_is _ b e)), tt); again = λ b h. refl }

pub want_form : IsForm want_text IsWant want_at
unfolding want_at want_parts
want_form =
    form_under _ _ _ _
    (λ w h. record { event = h.0.0; resource = h.0.1.0; to = h.0.1.1.0; max_cseq = h.0.1.1.1 })
    (λ w h. ((h.event, (h.resource, (h.to, h.max_cseq))), tt))
    (made_form want_made (both_form event_form (both_form text_form (both_form address_form count_form))))

-- ---- a subscription

state_parts : State → StateParts
state_parts s = (s.usage, (s.want, (s.count, s.due)))

abbrev IsGoing : State → Type 0
IsGoing s = (0 < s.count) × (s.count < s.want.max_cseq)

abbrev state_with : StateParts → State
state_with p = record { usage = p.0; want = p.1.0; count = p.1.1.0; due = p.1.1.1 }

state_made : IsMade state_of state_parts IsGoing
unfolding state_of state_parts
state_made = record {
  made = λ a b e. (let k = test_some (nat_lt 0 a.1.1.0 && nat_lt a.1.1.0 a.1.0.max_cseq) (state_with a) b e in (sym (ap state_parts k.1), subst IsGoing k.1 (going a k.0)));
  again = λ b h. rw (tested b h) refl;
} where
  going : (a : StateParts) → (nat_lt 0 a.1.1.0 && nat_lt a.1.1.0 a.1.0.max_cseq) ≡ true → IsGoing (state_with a)
  going a h =
      let both = and_both (nat_lt 0 a.1.1.0) (nat_lt a.1.1.0 a.1.0.max_cseq) h in
      let some = both.0 in
      let left = both.1 in
      let x : 0 < a.1.1.0 = grind (arith, nat_tests) in
      let y : a.1.1.0 < a.1.0.max_cseq = grind (arith, nat_tests) in
      (x, y)

  tested : (b : State) → IsGoing b → (nat_lt 0 b.count && nat_lt b.count b.want.max_cseq) ≡ true
  tested b h =
      let x : 0 < b.count = h.0 in
      let y : b.count < b.want.max_cseq = h.1 in
      grind (arith, nat_tests)

pub state_form : IsForm state_text IsState state_at
unfolding state_at state_parts
state_form =
    form_under _ _ _ _
    (λ s h. record { usage = h.0.0; want = h.0.1.0; count = h.0.1.1.0; due = h.0.1.1.1; told = h.1.0; left = h.1.1 })
    (λ s h. ((h.usage, (h.want, (h.count, h.due))), (h.told, h.left)))
    (made_form state_made (both_form usage_form (both_form want_form (both_form count_form number_form))))

-- ---- a row

unanswered_parts : Unanswered → ℕ × ℕ
unanswered_parts n = (n.number, n.moment)

unanswered_made : IsMade unanswered_of unanswered_parts (λ n. Unit {0})
unfolding unanswered_parts
unanswered_made = record { made = λ a b e. (sym (ap unanswered_parts (some_is _ b e)), tt); again = λ b h. refl }

pub unanswered_form : IsForm unanswered_text IsUnanswered unanswered_at
unfolding unanswered_at unanswered_parts
unanswered_form =
    form_under _ _ _ _ (λ n h. h.0) (λ n h. (h, tt))
    (made_form unanswered_made (both_form count_form number_form))

row_parts : Row → RowParts
row_parts r = (r.serial, (r.sub, (r.last_cseq, r.unanswered)))

row_made : IsMade row_of row_parts (λ r. Unit {0})
unfolding row_parts
row_made = record { made = λ a b e. (sym (ap row_parts (some_is _ b e)), tt); again = λ b h. refl }

pub row_form : IsForm row_text IsRow row_at
unfolding row_at row_parts
row_form =
    form_under _ _ _ _
    (λ r h. record { serial = h.0.0; sub = h.0.1.0; last_cseq = h.0.1.1.0; unanswered = h.0.1.1.1 })
    (λ r h. ((h.serial, (h.sub, (h.last_cseq, h.unanswered))), tt))
    (made_form row_made (both_form count_form (both_form state_form (both_form count_form (list_form _ _ _ unanswered_form)))))
