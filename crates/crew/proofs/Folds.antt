-- The folds over one item more.
use Rattle.std.proofs.Common.{◌≡◌, ℕ, ◌<◌, List, [], ◌∷◌, ◌++◌, length, take, map, ap, ◌∙◌, arith}
use Rattle.std.proofs.lemmas.List.{append-nil, map-append}
use Rattle.std.proofs.lemmas.List.Elements.{filter_map-append}
use Rattle.std.proofs.lemmas.Grind.{common_steps}
use Rattle.queues.specs.declared.items.Item.{Item}
use Rattle.notifier_model.specs.declared.event.Event.{Event}
use Rattle.notifier_model.specs.Book.{Book, step}
use Rattle.notifier_model.specs.Out.{Send, out_of}
use Rattle.notifier_model.specs.Run.{run_from, made_from}
use Rattle.notifier.specs.Standing.{Standing}
use Rattle.notifier_model.proofs.Runs.{run_from-push, made_from-push}
use Rattle.queues.specs.Values.{values, values_by, value_in, value_item, end_item}
use Rattle.crew.specs.Worked.{outs_for}

module _ {T : Type 0} where
  pub values-append : (xs ys : List (Item T)) → values (xs ++ ys) ≡ values xs ++ values ys
  values-append xs ys = filter_map-append (λ (x : Item T). value_in x.entry) xs ys

  pub values_value : (xs : List (Item T)) (p : ℕ) (x : T) → values (xs ++ value_item p x ∷ []) ≡ values xs ++ x ∷ []
  values_value xs p x = values-append xs (value_item p x ∷ [])

  pub values_end : (xs : List (Item T)) (p : ℕ) → values (xs ++ end_item p ∷ []) ≡ values xs
  values_end xs p = values-append xs (end_item p ∷ []) ∙ append-nil (values xs)

  pub values_by-append : (p : ℕ) (xs ys : List T) → values_by p (xs ++ ys) ≡ values_by p xs ++ values_by p ys
  values_by-append p xs ys = map-append (λ x. value_item p x) xs ys

-- the book after these events
abbrev pub book_after : Standing → List Event → Book
book_after stands es = run_from stands.place stands.book es

pub run_push : (stands : Standing) (es : List Event) (e : Event) → book_after stands (es ++ e ∷ []) ≡ (step stands.place (book_after stands es) e).book
run_push stands es e = run_from-push stands.place stands.book es e

pub outs_push : (stands : Standing) (es : List Event) (e : Event) → outs_for stands (es ++ e ∷ []) ≡ outs_for stands es ++ map out_of (step stands.place (book_after stands es) e).outs
outs_push stands es e =
    ap (λ (l : List Send). map out_of l) (made_from-push stands.place stands.book es e)
    ∙ map-append out_of (made_from stands.place stands.book es) (step stands.place (book_after stands es) e).outs

pub take_front : {A : Type 0} (n : ℕ) (xs ys : List A) → n ≡ length xs → take n (xs ++ ys) ≡ xs
take_front n xs ys e = grind (arith, common_steps)

pub take_within : {A : Type 0} (n : ℕ) (xs ys : List A) → n < length xs → take n (xs ++ ys) ≡ take n xs
take_within n xs ys e = grind (arith, common_steps)

pub take_whole : {A : Type 0} (n : ℕ) (xs : List A) → n ≡ length xs → take n xs ≡ xs
take_whole n xs e = grind (arith, common_steps)
