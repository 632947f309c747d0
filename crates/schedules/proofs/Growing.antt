-- What a worker takes only adds to its events, and what they make.
use Rattle.std.proofs.Common.{◌≡◌, ◌<◌, ℕ, zero, suc, Bool, true, false, ◌&&◌, List, [], ◌∷◌, ◌++◌, map, refl, ap, sym, ◌∙◌, subst, ⊎_elim, append_assoc, arith}
use Rattle.std.specs.Prelude.{if◌then◌else◌}
use Rattle.std.proofs.lemmas.List.{append-nil, map-append}
use Rattle.std.proofs.lemmas.List.Elements.{filter_map-append}
use Rattle.std.proofs.lemmas.Bool.Decides.{eqb_tells}
use Rattle.queues.specs.declared.items.Item.{Item}
use Rattle.queues.specs.Items.{items_of, has_end, StartsWith}
use Rattle.notifier_model.specs.declared.place.Place.{Place}
use Rattle.notifier_model.specs.declared.event.Event.{Event}
use Rattle.notifier_model.specs.Start.{Start}
use Rattle.notifier_model.specs.Out.{Send, out_of}
use Rattle.notifier_model.specs.Book.{Book, step}
use Rattle.notifier_model.specs.Run.{empty, run_from, made_from, made}
use Rattle.queues.specs.Values.{values, value_in}
use Rattle.notifier_model.specs.Home.{at_the_stop}
use Rattle.queues.specs.InboxEvents.{have_ended, events_of}

module _ {T : Type 0} where
  pub values-append : (xs ys : List (Item T)) → values (xs ++ ys) ≡ values xs ++ values ys
  values-append xs ys = filter_map-append (λ (x : Item T). value_in x.entry) xs ys

-- a port whose end mark isn't here
pub one_goes_on : (n : ℕ) (xs : List (Item Event)) (port : ℕ) → port < n → has_end (items_of port xs) ≡ false → have_ended n xs ≡ false
one_goes_on zero xs port lt goes_on = absurd (omega arith)
one_goes_on (suc n) xs port lt goes_on = ⊎_elim
    (λ t. let here : has_end (items_of n xs) ≡ false = subst (λ p. has_end (items_of p xs) ≡ false) t.1 goes_on in rw here refl)
    (λ t. let apart = t.1 in let others = one_goes_on n xs port (omega arith) goes_on in rw others (never (has_end (items_of n xs)))) (eqb_tells port n)
  where
    never : (d : Bool) → (d && false) ≡ false
    never true = refl
    never false = refl

made_from-append : (place : Place) (b : Book) (es more : List Event) → made_from place b (es ++ more) ≡ made_from place b es ++ made_from place (run_from place b es) more
unfolding made_from run_from
made_from-append place b [] more = refl
made_from-append place b (e ∷ es) more =
    ap (λ (l : List Send). (step place b e).outs ++ l) (made_from-append place (step place b e).book es more)
    ∙ sym (append_assoc (step place b e).outs (made_from place (step place b e).book es) (made_from place (run_from place (step place b e).book es) more))

-- what events make, more events only add to
pub outs_grow : (start : Start) (es more : List Event) → StartsWith (map out_of (made start (es ++ more))) (map out_of (made start es))
unfolding made
outs_grow start es more =
    let added : List Send = made_from start.place (run_from start.place (empty start) es) more in
    (map out_of added, ap (λ (l : List Send). map out_of l) (made_from-append start.place (empty start) es more) ∙ map-append out_of (made_from start.place (empty start) es) added)

-- the events, by whether all ports have ended
events_while : (stop : Bool) (ports : ℕ) (taken : List (Item Event)) → have_ended ports taken ≡ false → events_of stop ports taken ≡ values taken
events_while stop ports taken goes_on = rw goes_on (append-nil (values taken))

-- one item more, of a port that hadn't ended
pub events_grow : (stop : Bool) (ports : ℕ) (taken : List (Item Event)) (x : Item Event) → x.from < ports → has_end (items_of x.from taken) ≡ false → (more : List Event) × (events_of stop ports (taken ++ x ∷ []) ≡ events_of stop ports taken ++ more)
events_grow stop ports taken x lt goes_on =
    let stopped : List Event = if have_ended ports (taken ++ x ∷ []) then at_the_stop stop else [] in (
      values (x ∷ []) ++ stopped,
      ap (λ l. l ++ stopped) (values-append taken (x ∷ []))
          ∙ append_assoc (values taken) (values (x ∷ [])) stopped
          ∙ ap (λ l. l ++ (values (x ∷ []) ++ stopped)) (sym (events_while stop ports taken (one_goes_on ports taken x.from lt goes_on))),
    )
