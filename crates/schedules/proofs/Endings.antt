-- A worker that didn't quit posts its end mark only behind all that it has to post.
use Rattle.std.proofs.Common.{◌≡◌, ℕ, Bool, true, false, not, ◌||◌, true≢false, List, [], ◌∷◌, ◌++◌, length, drop, Option, Some, None, refl, ap, sym, ◌∙◌, subst}
use Rattle.std.specs.Prelude.{if◌then◌else◌, ◌==◌}
use Rattle.std.proofs.lemmas.List.{append-nil}
use Rattle.std.proofs.lemmas.List.Folds.{list_any-append}
use Rattle.queues.specs.declared.items.Item.{Item}
use Rattle.queues.specs.Items.{has_end, is_end}
use Rattle.queues.specs.Values.{values, end_item}
use Rattle.queues.specs.InboxEvents.{have_ended}
use Rattle.notifier_model.specs.declared.event.Event.{Event}
use Rattle.notifier_model.specs.declared.event.Out.{Out}
use Rattle.schedules.specs.World.{Crew, Step, Send, Take, Post, Get, Quit, Worker, World, new_world, sends, takes_first, takes, posts, quits, all_outs, lacking, first_or_end, next_post, at, posted_to, got_first, is_step_of, stepped, after, world}
use Rattle.schedules.specs.Laws.{InboxKeeps}
use Rattle.schedules.proofs.Cases.{if_is, same_number}
use Rattle.schedules.proofs.Growing.{values-append, one_goes_on}
use Rattle.schedules.proofs.Steps.{Knows, next_item, some_same, knows-stepped, knows-new}

-- behind its end mark all ports have ended, and nothing is lacking, unless it quit
abbrev pub EndsWell : Crew → ℕ → Worker → Type 0
EndsWell crew w v = has_end v.posted ≡ true → v.has_quit ≡ false → (have_ended crew.ports v.taken ≡ true) × (lacking crew w v ≡ [])

abbrev pub AllEndWell : Crew → World → Type 0
AllEndWell crew s = (w : ℕ) → EndsWell crew w (s.worker w)

-- behind all end marks nothing is taken
ends-takes : (crew : Crew) (w : ℕ) (v : Worker) (held : List (Item Event)) → v.held ≡ held → InboxKeeps crew.ports v → EndsWell crew w v → EndsWell crew w (takes_first held v)
ends-takes crew w v [] is k ends = ends
ends-takes crew w v (x ∷ rest) is k ends =
    let next = next_item crew.ports v x rest is k in
    λ e q. absurd (true≢false (sym (ends e q).0 ∙ one_goes_on crew.ports v.taken x.from next.0 next.1))

-- what is posted next by a worker that didn't quit: nothing that ends, or the end mark behind all
record GoesOn (crew : Crew) (w : ℕ) (v : Worker) (x : Item Out) : Type 0 where
  ends : is_end x ≡ true → (have_ended crew.ports v.taken ≡ true) × (lacking crew w v ≡ []) × (x ≡ end_item w)

goes_on : (crew : Crew) (w : ℕ) (v : Worker) (lacks : List Out) (ended : Bool) (x : Item Out) → lacking crew w v ≡ lacks → have_ended crew.ports v.taken ≡ ended → first_or_end w lacks ended ≡ Some x → GoesOn crew w v x
goes_on crew w v [] true x lacks ended is = record { ends = λ e. (ended, lacks, sym (some_same is)) }
goes_on crew w v [] false x lacks ended is = absurd (cc)
goes_on crew w v (out ∷ rest) ended x lacks is_ended is =
    record { ends = λ e. absurd (true≢false (sym e ∙ ap (λ (y : Item Out). is_end y) (sym (some_same is)))) }

next_goes_on : (crew : Crew) (w : ℕ) (v : Worker) (x : Item Out) → v.has_quit ≡ false → next_post crew w v ≡ Some x → (has_end v.posted ≡ false) × GoesOn crew w v x
next_goes_on crew w v x quit =
    if_is (λ (o : Option (Item Out)). o ≡ Some x → (has_end v.posted ≡ false) × GoesOn crew w v x) (has_end v.posted) None
    (if v.has_quit then Some (end_item w) else first_or_end w (lacking crew w v) (have_ended crew.ports v.taken))
    (λ e is. absurd (cc))
    (λ e. if_is (λ (o : Option (Item Out)). o ≡ Some x → (has_end v.posted ≡ false) × GoesOn crew w v x) v.has_quit
    (Some (end_item w)) (first_or_end w (lacking crew w v) (have_ended crew.ports v.taken))
    (λ q is. absurd (true≢false (sym q ∙ quit)))
    (λ q is. (e, goes_on crew w v (lacking crew w v) (have_ended crew.ports v.taken) x refl refl is)))

-- an end mark behind items without one
only_end : (xs : List (Item Out)) (x : Item Out) → has_end xs ≡ false → has_end (xs ++ x ∷ []) ≡ true → is_end x ≡ true
only_end xs x none e = by_it (is_end x) (ap (λ b. b || (is_end x || false)) (sym none) ∙ sym (list_any-append is_end xs (x ∷ [])) ∙ e)
  where
    by_it : (d : Bool) → (false || (d || false)) ≡ true → d ≡ true
    by_it true h = refl
    by_it false h = h

ends-posts : (crew : Crew) (w : ℕ) (v : Worker) (x : Item Out) → next_post crew w v ≡ Some x → EndsWell crew w (posts x v)
ends-posts crew w v x is e q =
    let next = next_goes_on crew w v x q is in
    let ends = next.1.ends (only_end v.posted x next.0 e) in
    let same : values (v.posted ++ x ∷ []) ≡ values v.posted =
    values-append v.posted (x ∷ []) ∙ ap (λ (y : Item Out). values v.posted ++ values (y ∷ [])) ends.2 ∙ append-nil (values v.posted) in
    (ends.0, ap (λ (l : List Out). drop (length l) (all_outs crew w v)) same ∙ ends.1)

-- ---- any step

ends-at : (crew : Crew) (s : World) (w : ℕ) (change : Worker → Worker) → ((u : ℕ) → EndsWell crew u (change (s.worker u))) → AllEndWell crew s → AllEndWell crew (at w change s)
ends-at crew s w change keeps ends u =
    if_is (λ (v : Worker). EndsWell crew u v) (w == u) (change (s.worker u)) (s.worker u) (λ e. keeps u) (λ e. ends u)

ends-posted : (crew : Crew) (s : World) (w : ℕ) (o : Option (Item Out)) → next_post crew w (s.worker w) ≡ o → AllEndWell crew s → AllEndWell crew (posted_to s w o)
ends-posted crew s w None is ends u = ends u
ends-posted crew s w (Some x) is ends u =
    if_is (λ (v : Worker). EndsWell crew u v) (w == u) (posts x (s.worker u)) (s.worker u)
    (λ e. subst (λ (n : ℕ). EndsWell crew n (posts x (s.worker n))) (same_number w u e) (ends-posts crew w (s.worker w) x is)) (λ e. ends u)

ends-got : (crew : Crew) (s : World) (held : List (Item Out)) → AllEndWell crew s → AllEndWell crew (got_first s held)
ends-got crew s [] ends u = ends u
ends-got crew s (x ∷ rest) ends u = ends u

ends-sends : (crew : Crew) (w : ℕ) (v : Worker) (x : Item Event) → EndsWell crew w v → EndsWell crew w (sends x v)
ends-sends crew w v x ends =
    if_is (λ (u : Worker). EndsWell crew w u) (not (has_end (v.sent x.from)))
    (record v { sent = λ port. if x.from == port then v.sent port ++ x ∷ [] else v.sent port; held = v.held ++ x ∷ [] }) v (λ e. ends) (λ e. ends)

ends-stepped : (crew : Crew) (s : World) (step : Step) → Knows crew s → AllEndWell crew s → AllEndWell crew (stepped crew s step)
ends-stepped crew s (Send port w entry) k ends =
    ends-at crew s w (sends (record { from = port; entry = entry })) (λ u. ends-sends crew u (s.worker u) (record { from = port; entry = entry }) (ends u)) ends
ends-stepped crew s (Take w) k ends = ends-at crew s w takes (λ u. ends-takes crew u (s.worker u) (s.worker u).held refl (k u).inbox (ends u)) ends
ends-stepped crew s (Post w) k ends = ends-posted crew s w (next_post crew w (s.worker w)) refl ends
ends-stepped crew s Get k ends = ends-got crew s s.held ends
ends-stepped crew s (Quit w) k ends = ends-at crew s w quits (λ u e q. absurd (true≢false q)) ends

ends-after : (crew : Crew) (s : World) (steps : List Step) → Knows crew s → AllEndWell crew s → AllEndWell crew (after crew s steps)
ends-after crew s [] k ends = ends
ends-after crew s (step ∷ more) k ends =
    ends-after crew (if is_step_of crew step then stepped crew s step else s) more
    (if_is (λ (t : World). Knows crew t) (is_step_of crew step) (stepped crew s step) s (λ e. knows-stepped crew s step e k) (λ e. k))
    (if_is (λ (t : World). AllEndWell crew t) (is_step_of crew step) (stepped crew s step) s (λ e. ends-stepped crew s step k ends) (λ e. ends))

pub ends_well : (crew : Crew) (steps : List Step) → AllEndWell crew (world crew steps)
ends_well crew steps = ends-after crew new_world steps (knows-new crew) (λ w e q. absurd (true≢false (sym e)))
