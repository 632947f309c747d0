-- Unanswered NOTIFYs are in the order in which they were made.
use Rattle.std.proofs.Common.{◌≡◌, ℕ, zero, suc, ◌≤◌, Bool, List, [], ◌∷◌, ◌++◌, All, filter, arith}
use Rattle.std.proofs.lemmas.List.Elements.{All-nil, All-push, All-filter, All-weaker}
use Rattle.std.proofs.lemmas.List.Kept.{AllPairs-filter}
use Rattle.std.proofs.lemmas.List.Quantifiers.{all_pairs_push}
use Rattle.notifier_model.specs.declared.row.Unanswered.{Unanswered}
use Rattle.notifier.specs.Sound.{AreInOrder, AreTimely}

pub timely_none : (clock : ℕ) → AreTimely clock []
timely_none clock = record { made = All-nil (λ notify. notify.moment ≤ clock); in_order = λ i j d below within. absurd (omega arith) }

-- one that is made now
pub timely_push : (clock : ℕ) (notifys : List Unanswered) (notify : Unanswered) → notify.moment ≡ clock → AreTimely clock notifys → AreTimely clock (notifys ++ notify ∷ [])
timely_push clock notifys notify now timely = record {
  made = All-push (λ n. n.moment ≤ clock) notifys notify timely.made (omega arith);
  in_order = all_pairs_push (λ older newer. older.moment ≤ newer.moment) notifys notify timely.in_order (λ k d within. let before = timely.made k d within in omega arith);
}

-- some of them
pub timely_filter : (clock : ℕ) (test : Unanswered → Bool) (notifys : List Unanswered) → AreTimely clock notifys → AreTimely clock (filter test notifys)
timely_filter clock test notifys timely = record {
  made = All-filter test (λ n. n.moment ≤ clock) notifys timely.made;
  in_order = AllPairs-filter (λ older newer. older.moment ≤ newer.moment) test notifys timely.in_order;
}

-- time goes on
pub timely_later : (before clock : ℕ) (notifys : List Unanswered) → before ≤ clock → AreTimely before notifys → AreTimely clock notifys
timely_later before clock notifys on timely = record {
  made = All-weaker (λ n. n.moment ≤ before) (λ n. n.moment ≤ clock) (λ n made. omega (arith, on, made)) notifys timely.made;
  in_order = timely.in_order;
}

-- none was made before the first
pub after_oldest : (oldest : Unanswered) (newer : List Unanswered) → AreInOrder (oldest ∷ newer) → All (λ n. oldest.moment ≤ n.moment) newer
after_oldest oldest newer in_order = λ k d within. in_order zero (suc k) d (omega arith) (omega arith)
