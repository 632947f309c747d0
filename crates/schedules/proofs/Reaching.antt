-- From each world some work leads to one in which nothing is left to do.
use Rattle.std.proofs.Common.{◌≡◌, ◌≢◌, ◌<◌, ◌≤◌, ℕ, zero, suc, Bool, true, false, ◌&&◌, List, [], ◌∷◌, ◌++◌, length, drop, Option, Some, None, refl, ap, sym, ◌∙◌, subst, ◌⊎◌, inl, inr, ◌||◌, ⊎_elim, eq-eqb, ne_eqb, arith}
use Rattle.std.specs.Prelude.{if◌then◌else◌, nat_lt}
use Rattle.std.specs.List.{list_all}
use Rattle.std.proofs.Math.Seq.{drop-append_seam}
use Rattle.std.proofs.lemmas.List.{append-nil}
use Rattle.std.proofs.lemmas.List.Folds.{list_all-append, list_any-append}
use Rattle.std.proofs.lemmas.Bool.Decides.{Decides-ltb, eqb_tells}
use Rattle.queues.specs.declared.items.Item.{Item}
use Rattle.queues.specs.Items.{items_of, has_end, is_end, StartsWith}
use Rattle.queues.specs.Values.{values, value_item, end_item}
use Rattle.queues.specs.InboxEvents.{have_ended}
use Rattle.notifier_model.specs.declared.event.Event.{Event}
use Rattle.notifier_model.specs.declared.event.Out.{Out}
use Rattle.schedules.specs.World.{Crew, Step, Take, Post, Get, Worker, World, takes_first, takes, posts, lacking, first_or_end, next_post, all_outs, at, posted_to, got_first, is_step_of, stepped, after, new_world, world}
use Rattle.schedules.specs.Laws.{is_work, IsDone, NoDeadEndLaw}
use Rattle.schedules.proofs.Cases.{if_is}
use Rattle.schedules.proofs.Growing.{values-append}
use Rattle.schedules.proofs.Steps.{some_same, knows}
use Rattle.schedules.proofs.Endings.{EndsWell, ends_well}

-- Nothing is left to do: the inboxes and the outbox are empty, and no worker has something to post.
record IsIdle (crew : Crew) (s : World) : Type 0 where
  taken : (w : ℕ) → w < crew.workers → (s.worker w).held ≡ []
  posted : (w : ℕ) → w < crew.workers → next_post crew w (s.worker w) ≡ None
  got : s.held ≡ []

-- ---- work, piece by piece

-- some work leads from this world to one of which this holds
record Reaches (crew : Crew) (s : World) (P : World → Type 0) : Type 0 where
  work : List Step
  is_all : list_all is_work work ≡ true
  holds : P (after crew s work)

after-append : (crew : Crew) (s : World) (steps more : List Step) → after crew s (steps ++ more) ≡ after crew (after crew s steps) more
after-append crew s [] more = refl
after-append crew s (step ∷ steps) more = after-append crew (if is_step_of crew step then stepped crew s step else s) steps more

stays : (crew : Crew) (s : World) (P : World → Type 0) → P s → Reaches crew s P
stays crew s P h = record { work = []; is_all = refl; holds = h }

and_then : (crew : Crew) (s : World) (P Q : World → Type 0) → Reaches crew s P → ((t : World) → P t → Reaches crew t Q) → Reaches crew s Q
and_then crew s P Q r next =
    let n = next (after crew s r.work) r.holds in
    record {
      work = r.work ++ n.work;
      is_all = list_all-append is_work r.work n.work ∙ ap (λ b. b && list_all is_work n.work) r.is_all ∙ n.is_all;
      holds = subst Q (sym (after-append crew s r.work n.work)) n.holds;
    }

-- one step, and then on
by_step : (crew : Crew) (s : World) (step : Step) (P : World → Type 0) → is_work step ≡ true → is_step_of crew step ≡ true → Reaches crew (stepped crew s step) P → Reaches crew s P
by_step crew s step P works of r =
    let here : (if is_step_of crew step then stepped crew s step else s) ≡ stepped crew s step = ap (λ b. if b then stepped crew s step else s) of in
    record {
      work = step ∷ r.work;
      is_all = ap (λ b. b && list_all is_work r.work) works ∙ r.is_all;
      holds = subst (λ (t : World). P (after crew t r.work)) (sym here) r.holds;
    }

is_below : (w n : ℕ) → w < n → nat_lt w n ≡ true
is_below w n lt = (Decides-ltb w n).1 lt

-- ---- the worker that a step changes, and the others

at-here : (w : ℕ) (change : Worker → Worker) (s : World) → (at w change s).worker w ≡ change (s.worker w)
at-here w change s = ap (λ b. if b then change (s.worker w) else s.worker w) (eq-eqb w w refl)

at-there : (w u : ℕ) (change : Worker → Worker) (s : World) → w ≢ u → (at w change s).worker u ≡ s.worker u
at-there w u change s apart = ap (λ b. if b then change (s.worker u) else s.worker u) (ne_eqb w u apart)

-- of each of the first n workers
abbrev Each : ℕ → (ℕ → Worker → Type 0) → World → Type 0
Each n P s = (u : ℕ) → u < n → P u (s.worker u)

-- of one worker more
one_more : (w : ℕ) (P : ℕ → Worker → Type 0) (s : World) → P w (s.worker w) → Each w P s → Each (suc w) P s
one_more w P s here before u lt = ⊎_elim
    (λ t. subst (λ n. P n (s.worker n)) t.1 here)
    (λ t. let apart = t.1 in before u (omega arith)) (eqb_tells w u)

-- a step of this worker leaves the others
each-there : (w n : ℕ) (P : ℕ → Worker → Type 0) (change : Worker → Worker) (s : World) → n ≤ w → Each n P s → Each n P (at w change s)
each-there w n P change s le each u lt =
    let apart : w ≢ u = λ e. absurd (omega arith) in
    subst (P u) (sym (at-there w u change s apart)) (each u lt)

-- ---- all is taken

abbrev HasTaken : ℕ → Worker → Type 0
HasTaken w v = v.held ≡ []

takes-held : (v : Worker) (x : Item Event) (rest : List (Item Event)) → v.held ≡ x ∷ rest → (takes v).held ≡ rest
takes-held v x rest is = ap (λ (l : List (Item Event)). (takes_first l v).held) is

take_all : (crew : Crew) (w : ℕ) (s : World) (held : List (Item Event)) → w < crew.workers → (s.worker w).held ≡ held → Each w HasTaken s → Reaches crew s (Each (suc w) HasTaken)
take_all crew w s [] lt is before = stays crew s (Each (suc w) HasTaken) (one_more w HasTaken s is before)
take_all crew w s (x ∷ rest) lt is before =
    by_step crew s (Take w) (Each (suc w) HasTaken) refl (is_below w crew.workers lt)
    (take_all crew w (at w takes s) rest lt
    (ap (λ (v : Worker). v.held) (at-here w takes s) ∙ takes-held (s.worker w) x rest is)
    (each-there w w HasTaken takes s (omega arith) before))

take_every : (crew : Crew) (n : ℕ) (s : World) → n ≤ crew.workers → Reaches crew s (Each n HasTaken)
take_every crew zero s le = stays crew s (Each zero HasTaken) (λ u lt. absurd (omega arith))
take_every crew (suc w) s le =
    and_then crew s (Each w HasTaken) (Each (suc w) HasTaken) (take_every crew w s (omega arith))
    (λ t before. take_all crew w t (t.worker w).held (omega arith) refl before)

-- ---- all is posted

abbrev HasPosted : Crew → ℕ → Worker → Type 0
HasPosted crew w v = next_post crew w v ≡ None

drop_next : {A : Type 0} (n : ℕ) (xs : List A) (x : A) (rest : List A) → drop n xs ≡ x ∷ rest → drop (suc n) xs ≡ rest
drop_next zero [] x rest is = absurd (cc)
drop_next zero (y ∷ ys) x rest is = cc
drop_next (suc n) [] x rest is = absurd (cc)
drop_next (suc n) (y ∷ ys) x rest is = drop_next n ys x rest is

-- behind an end mark nothing is posted
ended-posts-none : (crew : Crew) (w : ℕ) (v : Worker) → has_end v.posted ≡ true → next_post crew w v ≡ None
ended-posts-none crew w v e = ap (λ b. if b then None else if v.has_quit then Some (end_item w) else first_or_end w (lacking crew w v) (have_ended crew.ports v.taken)) e

one_longer : {A : Type 0} (xs : List A) (x : A) → length (xs ++ x ∷ []) ≡ suc (length xs)
one_longer [] x = refl
one_longer (y ∷ ys) x = ap suc (one_longer ys x)

lacks-less : (crew : Crew) (w : ℕ) (v : Worker) (out : Out) (rest : List Out) → lacking crew w v ≡ out ∷ rest → lacking crew w (posts (value_item w out) v) ≡ rest
lacks-less crew w v out rest is =
    ap (λ n. drop n (all_outs crew w v)) (ap length (values-append v.posted (value_item w out ∷ [])) ∙ one_longer (values v.posted) out)
    ∙ drop_next (length (values v.posted)) (all_outs crew w v) out rest is

-- what a worker posts next is its end mark, or the first of what it lacks
record IsNext (w : ℕ) (lacks : List Out) (x : Item Out) : Type 0 where
  is : (x ≡ end_item w) ⊎ ((out : Out) × (rest : List Out) × (lacks ≡ out ∷ rest) × (x ≡ value_item w out))

of_lacking : (w : ℕ) (lacks : List Out) (ended : Bool) (x : Item Out) → first_or_end w lacks ended ≡ Some x → IsNext w lacks x
of_lacking w [] true x is = record { is = inl (sym (some_same is)) }
of_lacking w [] false x is = absurd (cc)
of_lacking w (out ∷ rest) ended x is = record { is = inr (out, rest, refl, sym (some_same is)) }

next_of : (crew : Crew) (w : ℕ) (v : Worker) (x : Item Out) → next_post crew w v ≡ Some x → IsNext w (lacking crew w v) x
next_of crew w v x =
    if_is (λ (o : Option (Item Out)). o ≡ Some x → IsNext w (lacking crew w v) x) (has_end v.posted) None
    (if v.has_quit then Some (end_item w) else first_or_end w (lacking crew w v) (have_ended crew.ports v.taken))
    (λ e is. absurd (cc))
    (λ e. if_is (λ (o : Option (Item Out)). o ≡ Some x → IsNext w (lacking crew w v) x) v.has_quit
    (Some (end_item w)) (first_or_end w (lacking crew w v) (have_ended crew.ports v.taken))
    (λ q is. record { is = inl (sym (some_same is)) })
    (λ q is. of_lacking w (lacking crew w v) (have_ended crew.ports v.taken) x is))

-- all was taken, and so much posted
record HasGone (crew : Crew) (n : ℕ) (s : World) : Type 0 where
  taken : Each crew.workers HasTaken s
  posted : Each n (HasPosted crew) s

taken-posts : (crew : Crew) (w : ℕ) (x : Item Out) (s : World) → Each crew.workers HasTaken s → Each crew.workers HasTaken (at w (posts x) s)
taken-posts crew w x s each u lt = ⊎_elim
    (λ t. let here = t.1 in subst (λ n. ((at w (posts x) s).worker n).held ≡ []) here (ap (λ (v : Worker). v.held) (at-here w (posts x) s) ∙ each w (subst (λ n. n < crew.workers) (sym here) lt)))
    (λ t. let apart = t.1 in ap (λ (v : Worker). v.held) (at-there w u (posts x) s apart) ∙ each u lt) (eqb_tells w u)

-- what is left after a post
gone-posts : (crew : Crew) (w : ℕ) (x : Item Out) (s : World) → HasGone crew w s → HasGone crew w (posted_to s w (Some x))
gone-posts crew w x s g = record {
  taken = taken-posts crew w x s g.taken;
  posted = each-there w w (HasPosted crew) (posts x) s (omega arith) g.posted;
}

gone_more : (crew : Crew) (w : ℕ) (s : World) → next_post crew w (s.worker w) ≡ None → HasGone crew w s → HasGone crew (suc w) s
gone_more crew w s none g = record { taken = g.taken; posted = one_more w (HasPosted crew) s none g.posted }

-- the end mark is the last
post_end : (crew : Crew) (w : ℕ) (s : World) → HasGone crew w s → HasGone crew (suc w) (posted_to s w (Some (end_item w)))
post_end crew w s g =
    let ended : has_end ((s.worker w).posted ++ end_item w ∷ []) ≡ true = list_any-append is_end (s.worker w).posted (end_item w ∷ []) ∙ or_true (has_end (s.worker w).posted) in
    gone_more crew w (posted_to s w (Some (end_item w)))
    (ap (λ (v : Worker). next_post crew w v) (at-here w (posts (end_item w)) s) ∙ ended-posts-none crew w (posts (end_item w) (s.worker w)) ended)
    (gone-posts crew w (end_item w) s g)
  where
    or_true : (d : Bool) → (d || true) ≡ true
    or_true true = refl
    or_true false = refl

step_posts : (crew : Crew) (w : ℕ) (s : World) (x : Item Out) (P : World → Type 0) → w < crew.workers → next_post crew w (s.worker w) ≡ Some x → Reaches crew (posted_to s w (Some x)) P → Reaches crew s P
step_posts crew w s x P lt is r =
    by_step crew s (Post w) P refl (is_below w crew.workers lt) (subst (λ (o : Option (Item Out)). Reaches crew (posted_to s w o) P) (sym is) r)

-- What the worker posts next, if anything: its end mark, behind which nothing comes, or the first of what it lacks, behind which it goes on.
post_by : (crew : Crew) (w : ℕ) (s : World) → w < crew.workers → HasGone crew w s
    → ((x : Item Out) (out : Out) (rest : List Out) → lacking crew w (s.worker w) ≡ out ∷ rest → x ≡ value_item w out → Reaches crew (posted_to s w (Some x)) (HasGone crew (suc w)))
    → (o : Option (Item Out)) → next_post crew w (s.worker w) ≡ o → Reaches crew s (HasGone crew (suc w))
post_by crew w s lt g again None is = stays crew s (HasGone crew (suc w)) (gone_more crew w s is g)
post_by crew w s lt g again (Some x) is =
    step_posts crew w s x (HasGone crew (suc w)) lt is (⊎_elim
    (λ e. subst (λ (y : Item Out). Reaches crew (posted_to s w (Some y)) (HasGone crew (suc w))) (sym e)
    (stays crew (posted_to s w (Some (end_item w))) (HasGone crew (suc w)) (post_end crew w s g)))
    (λ t. again x t.0 t.1 t.2 t.3) (next_of crew w (s.worker w) x is).is)

same_rest : {A : Type 0} (x y : A) (xs ys : List A) → x ∷ xs ≡ y ∷ ys → ys ≡ xs
same_rest x y xs ys e = cc

post_all : (crew : Crew) (w : ℕ) (s : World) (lacks : List Out) → w < crew.workers → lacking crew w (s.worker w) ≡ lacks → HasGone crew w s → Reaches crew s (HasGone crew (suc w))
post_all crew w s [] lt lacks g =
    post_by crew w s lt g (λ x out rest e is. let none : [] ≡ out ∷ rest = sym lacks ∙ e in absurd (cc)) (next_post crew w (s.worker w)) refl
post_all crew w s (first ∷ more) lt lacks g =
    post_by crew w s lt g
    (λ x out rest e is. post_all crew w (posted_to s w (Some x)) more lt
    (ap (λ (v : Worker). lacking crew w v) (at-here w (posts x) s)
    ∙ subst (λ (y : Item Out). lacking crew w (posts y (s.worker w)) ≡ rest) (sym is) (lacks-less crew w (s.worker w) out rest e)
    ∙ same_rest first out more rest (sym lacks ∙ e))
    (gone-posts crew w x s g)) (next_post crew w (s.worker w)) refl

post_every : (crew : Crew) (n : ℕ) (s : World) → n ≤ crew.workers → Each crew.workers HasTaken s → Reaches crew s (HasGone crew n)
post_every crew zero s le taken = stays crew s (HasGone crew zero) (record { taken = taken; posted = λ u lt. absurd (omega arith) })
post_every crew (suc w) s le taken =
    and_then crew s (HasGone crew w) (HasGone crew (suc w)) (post_every crew w s (omega arith) taken)
    (λ t g. post_all crew w t (lacking crew w (t.worker w)) (omega arith) refl g)

-- ---- all is got

get_all : (crew : Crew) (s : World) (held : List (Item Out)) → s.held ≡ held → HasGone crew crew.workers s → Reaches crew s (IsIdle crew)
get_all crew s [] is g = stays crew s (IsIdle crew) (record { taken = g.taken; posted = g.posted; got = is })
get_all crew s (x ∷ rest) is g =
    by_step crew s Get (IsIdle crew) refl refl (subst (λ (l : List (Item Out)). Reaches crew (got_first s l) (IsIdle crew)) (sym is)
    (get_all crew (got_first s (x ∷ rest)) rest refl (record { taken = g.taken; posted = g.posted })))

-- ---- where nothing is left to do all is told

-- a first part that lacks nothing is all
lacks_none : {A : Type 0} (some all : List A) → StartsWith all some → drop (length some) all ≡ [] → some ≡ all
lacks_none some all h none =
    let rest : h.0 ≡ [] = sym (drop-append_seam some h.0) ∙ ap (drop (length some)) (sym h.1) ∙ none in
    sym (h.1 ∙ ap (λ l. some ++ l) rest ∙ append-nil some)

-- a worker that has nothing to post, posted no end mark and didn't quit lacks nothing
none_lacks : (w : ℕ) (lacks : List Out) (ended : Bool) → first_or_end w lacks ended ≡ None → lacks ≡ []
none_lacks w [] ended is = refl
none_lacks w (out ∷ rest) ended is = absurd (cc)

none_next : (crew : Crew) (w : ℕ) (v : Worker) → has_end v.posted ≡ false → v.has_quit ≡ false → next_post crew w v ≡ None → lacking crew w v ≡ []
none_next crew w v e q is =
    none_lacks w (lacking crew w v) (have_ended crew.ports v.taken)
    (sym (ap (λ b. if b then Some (end_item w) else first_or_end w (lacking crew w v) (have_ended crew.ports v.taken)) q)
    ∙ sym (ap (λ b. if b then None else if v.has_quit then Some (end_item w) else first_or_end w (lacking crew w v) (have_ended crew.ports v.taken)) e) ∙ is)

lacks_nothing : (crew : Crew) (w : ℕ) (v : Worker) → EndsWell crew w v → v.has_quit ≡ false → next_post crew w v ≡ None → lacking crew w v ≡ []
lacks_nothing crew w v ends q is = by_end (has_end v.posted) refl
  where
    by_end : (d : Bool) → has_end v.posted ≡ d → lacking crew w v ≡ []
    by_end true e = (ends e q).1
    by_end false e = none_next crew w v e q is

idle_is_done : (crew : Crew) (steps : List Step) → IsIdle crew (world crew steps) → IsDone crew (world crew steps)
idle_is_done crew steps i =
    let s = world crew steps in
    record {
      taken = λ w port lt. ap (items_of port) (sym (append-nil (s.worker w).taken) ∙ ap (λ l. (s.worker w).taken ++ l) (sym (i.taken w lt))) ∙ (knows crew steps w).inbox.in_order port;
      got = λ w lt q.
          ap (λ (l : List (Item Out)). values l) (ap (items_of w) (sym (append-nil s.got) ∙ ap (λ l. s.got ++ l) (sym i.got)) ∙ (knows crew steps w).posted_are)
          ∙ lacks_none (values (s.worker w).posted) (all_outs crew w (s.worker w)) (knows crew steps w).made_first (lacks_nothing crew w (s.worker w) (ends_well crew steps w) q (i.posted w lt));
    }

pub no_dead_end_law : NoDeadEndLaw
no_dead_end_law crew steps =
    let s = world crew steps in
    let r : Reaches crew s (IsIdle crew) =
    and_then crew s (Each crew.workers HasTaken) (IsIdle crew) (take_every crew crew.workers s (omega arith))
    (λ t taken. and_then crew t (HasGone crew crew.workers) (IsIdle crew) (post_every crew crew.workers t (omega arith) taken)
    (λ u g. get_all crew u u.held refl g)) in
    (r.work, r.is_all, idle_is_done crew (steps ++ r.work) (subst (IsIdle crew) (sym (after-append crew new_world steps r.work)) r.holds))
