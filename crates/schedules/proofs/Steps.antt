-- What is known of each worker, and that each step keeps it.
use Rattle.std.proofs.Common.{◌≡◌, ◌<◌, ◌≤◌, ℕ, Bool, true, false, not, cond, List, [], ◌∷◌, ◌++◌, map, Option, Some, None, refl, ap, sym, ◌∙◌, subst, append_assoc, arith}
use Rattle.std.specs.Prelude.{if◌then◌else◌, nat_lt, ◌==◌}
use Rattle.std.proofs.lemmas.List.{append-nil}
use Rattle.std.proofs.lemmas.Bool.Decides.{nat_tests}
use Rattle.queues.specs.declared.items.Item.{Item}
use Rattle.queues.specs.Items.{items_of, has_end, NothingAfterEnd, StartsWith}
use Rattle.queues.proofs.ItemLists.{items_of-append, items_of_first, items_of_more, items_of_same, ends_snoc, ends_front, not_nil}
use Rattle.notifier_model.specs.declared.event.Event.{Event}
use Rattle.notifier_model.specs.declared.event.Out.{Out}
use Rattle.notifier_model.specs.Out.{out_of}
use Rattle.notifier_model.specs.Run.{made}
use Rattle.queues.specs.Values.{values, value_item, end_item}
use Rattle.queues.specs.InboxEvents.{have_ended}
use Rattle.schedules.specs.World.{Crew, Step, Send, Take, Post, Get, Quit, Worker, World, new_worker, new_world, sends, takes_first, takes, posts, quits, its_events, all_outs, lacking, first_or_end, next_post, at, posted_to, got_first, is_step_of, stepped, after, world}
use Rattle.schedules.specs.Laws.{InboxKeeps, InboxLaw, OutboxLaw}
use Rattle.schedules.proofs.Cases.{if_is, and-left, not_so, same_number, is_below}
use Rattle.schedules.proofs.Fronts.{first_of_all, next_first}
use Rattle.schedules.proofs.Growing.{values-append, outs_grow, events_grow}

-- what is known of one worker, beside all that went through the outbox
pub record Known (crew : Crew) (w : ℕ) (v : Worker) (outs : List (Item Out)) : Type 0 where
  pub inbox : InboxKeeps crew.ports v
  pub posted_are : items_of w outs ≡ v.posted
  pub ends_last : NothingAfterEnd v.posted
  pub made_first : StartsWith (all_outs crew w v) (values v.posted)
  pub absent : crew.workers ≤ w → v.posted ≡ []

abbrev pub Knows : Crew → World → Type 0
Knows crew s = (w : ℕ) → Known crew w (s.worker w) (s.got ++ s.held)

-- ---- Send

more_or_same : {A : Type 0} (d : Bool) (xs : List A) (x : A) → xs ++ cond d (x ∷ []) [] ≡ cond d (xs ++ x ∷ []) xs
more_or_same true xs x = refl
more_or_same false xs x = append-nil xs

abbrev sent_with : Item Event → Worker → ℕ → List (Item Event)
sent_with x v port = if x.from == port then v.sent port ++ x ∷ [] else v.sent port

sent-ends_last : (x : Item Event) (v : Worker) → has_end (v.sent x.from) ≡ false → ((port : ℕ) → NothingAfterEnd (v.sent port)) → (port : ℕ) → NothingAfterEnd (sent_with x v port)
sent-ends_last x v open_yet last port =
    if_is NothingAfterEnd (x.from == port) (v.sent port ++ x ∷ []) (v.sent port)
    (λ e. ends_snoc (v.sent port) x (subst (λ p. has_end (v.sent p) ≡ false) (same_number x.from port e) open_yet)) (λ e. last port)

sent-no_others : (ports : ℕ) (x : Item Event) (v : Worker) → x.from < ports → ((port : ℕ) → ports ≤ port → v.sent port ≡ []) → (port : ℕ) → ports ≤ port → sent_with x v port ≡ []
sent-no_others ports x v lt none port le =
    if_is (λ (l : List (Item Event)). l ≡ []) (x.from == port) (v.sent port ++ x ∷ []) (v.sent port)
    (λ e. let same = same_number x.from port e in absurd (omega arith)) (λ e. none port le)

inbox-sends : (ports : ℕ) (x : Item Event) (v : Worker) → x.from < ports → InboxKeeps ports v → InboxKeeps ports (sends x v)
inbox-sends ports x v lt k =
    if_is (InboxKeeps ports) (not (has_end (v.sent x.from))) (record v { sent = sent_with x v; held = v.held ++ x ∷ [] }) v
    (λ e. record {
      in_order = λ port. items_of_more port v.taken v.held x ∙ ap (λ l. l ++ items_of port (x ∷ [])) (k.in_order port) ∙ more_or_same (x.from == port) (v.sent port) x;
      ends_last = sent-ends_last x v (not_so (has_end (v.sent x.from)) e) k.ends_last;
      no_others = sent-no_others ports x v lt k.no_others;
    }) (λ e. k)

known-sends : (crew : Crew) (w : ℕ) (v : Worker) (outs : List (Item Out)) (x : Item Event) → x.from < crew.ports → Known crew w v outs → Known crew w (sends x v) outs
known-sends crew w v outs x lt k =
    if_is (λ (u : Worker). InboxKeeps crew.ports u → Known crew w u outs) (not (has_end (v.sent x.from))) (record v { sent = sent_with x v; held = v.held ++ x ∷ [] }) v
    (λ e inbox. record { inbox = inbox; posted_are = k.posted_are; ends_last = k.ends_last; made_first = k.made_first; absent = k.absent }) (λ e inbox. k) (inbox-sends crew.ports x v lt k.inbox)

-- ---- Take

pub above : (a b : ℕ) → nat_lt a b ≡ false → b ≤ a
above a b e = grind (arith, nat_tests)

-- the next item is of a port that has not ended
pub next_item : (ports : ℕ) (v : Worker) (x : Item Event) (rest : List (Item Event)) → v.held ≡ x ∷ rest → InboxKeeps ports v → (x.from < ports) × (has_end (items_of x.from v.taken) ≡ false)
next_item ports v x rest is k =
    let whole : items_of x.from v.taken ++ x ∷ items_of x.from rest ≡ v.sent x.from =
    ap (λ l. items_of x.from v.taken ++ l) (sym (items_of_first x.from x rest refl)) ∙ sym (items_of-append x.from v.taken (x ∷ rest)) ∙ ap (λ l. items_of x.from (v.taken ++ l)) (sym is) ∙ k.in_order x.from in
    (below (nat_lt x.from ports) refl whole, ends_front (items_of x.from v.taken) x (items_of x.from rest) (subst NothingAfterEnd (sym whole) (k.ends_last x.from)))
  where
    below : (d : Bool) → nat_lt x.from ports ≡ d → items_of x.from v.taken ++ x ∷ items_of x.from rest ≡ v.sent x.from → x.from < ports
    below true e whole = is_below x.from ports e
    below false e whole = absurd (not_nil (items_of x.from v.taken) x (items_of x.from rest) (whole ∙ k.no_others x.from (above x.from ports e)))

known-takes : (crew : Crew) (w : ℕ) (v : Worker) (outs : List (Item Out)) (held : List (Item Event)) → v.held ≡ held → Known crew w v outs → Known crew w (takes_first held v) outs
known-takes crew w v outs [] is k = k
known-takes crew w v outs (x ∷ rest) is k =
    let next = next_item crew.ports v x rest is k.inbox in
    let more = events_grow (crew.start w).place.stop crew.ports v.taken x next.0 next.1 in
    record {
      inbox = record {
        in_order = λ port. ap (items_of port) (append_assoc v.taken (x ∷ []) rest ∙ ap (λ l. v.taken ++ l) (sym is)) ∙ k.inbox.in_order port;
        ends_last = k.inbox.ends_last;
        no_others = k.inbox.no_others;
      };
      posted_are = k.posted_are;
      ends_last = k.ends_last;
      made_first =
          let grown : StartsWith (map out_of (made (crew.start w) (its_events crew w v ++ more.0))) (all_outs crew w v) = outs_grow (crew.start w) (its_events crew w v) more.0 in
          let Q : List Event → Type 0 = λ es. StartsWith (map out_of (made (crew.start w) es)) (values v.posted) in
          subst Q (sym more.1) (first_of_all (values v.posted) (all_outs crew w v) (map out_of (made (crew.start w) (its_events crew w v ++ more.0))) k.made_first grown);
      absent = k.absent;
    }

-- ---- Post

pub some_same : {A : Type 0} {a b : A} → Some a ≡ Some b → a ≡ b
some_same is = cc

-- what a worker may post next
record MayPost (crew : Crew) (w : ℕ) (v : Worker) (x : Item Out) : Type 0 where
  its_own : x.from ≡ w
  made_first : StartsWith (all_outs crew w v) (values (v.posted ++ x ∷ []))

may_post_end : (crew : Crew) (w : ℕ) (v : Worker) → StartsWith (all_outs crew w v) (values v.posted) → MayPost crew w v (end_item w)
may_post_end crew w v h = record {
  its_own = refl;
  made_first = subst (λ (l : List Out). StartsWith (all_outs crew w v) l) (sym (values-append v.posted (end_item w ∷ []) ∙ append-nil (values v.posted))) h;
}

may_post : (crew : Crew) (w : ℕ) (v : Worker) (lacks : List Out) (ended : Bool) (x : Item Out) → StartsWith (all_outs crew w v) (values v.posted) → lacking crew w v ≡ lacks → first_or_end w lacks ended ≡ Some x → MayPost crew w v x
may_post crew w v [] true x h lacks is = subst (MayPost crew w v) (some_same is) (may_post_end crew w v h)
may_post crew w v [] false x h lacks is = absurd (cc)
may_post crew w v (out ∷ more) ended x h lacks is = subst (MayPost crew w v) (some_same is) (record {
  its_own = refl;
  made_first = subst (λ (l : List Out). StartsWith (all_outs crew w v) l) (sym (values-append v.posted (value_item w out ∷ []))) (next_first (values v.posted) (all_outs crew w v) more out h lacks);
})

next_is : (crew : Crew) (w : ℕ) (v : Worker) (x : Item Out) → StartsWith (all_outs crew w v) (values v.posted) → next_post crew w v ≡ Some x → (has_end v.posted ≡ false) × MayPost crew w v x
next_is crew w v x h =
    if_is (λ (o : Option (Item Out)). o ≡ Some x → (has_end v.posted ≡ false) × MayPost crew w v x) (has_end v.posted) None
    (if v.has_quit then Some (end_item w) else first_or_end w (lacking crew w v) (have_ended crew.ports v.taken))
    (λ e is. absurd (cc))
    (λ e. if_is (λ (o : Option (Item Out)). o ≡ Some x → (has_end v.posted ≡ false) × MayPost crew w v x) v.has_quit
    (Some (end_item w)) (first_or_end w (lacking crew w v) (have_ended crew.ports v.taken))
    (λ q is. (e, subst (MayPost crew w v) (some_same is) (may_post_end crew w v h)))
    (λ q is. (e, may_post crew w v (lacking crew w v) (have_ended crew.ports v.taken) x h refl is)))

-- at the worker that posts
posts-here : (crew : Crew) (w : ℕ) (v : Worker) (got held : List (Item Out)) (x : Item Out) → w < crew.workers → MayPost crew w v x → has_end v.posted ≡ false → Known crew w v (got ++ held) → Known crew w (posts x v) (got ++ (held ++ x ∷ []))
posts-here crew w v got held x lt may open_yet k = record {
  inbox = record { in_order = k.inbox.in_order; ends_last = k.inbox.ends_last; no_others = k.inbox.no_others };
  posted_are = items_of_more w got held x ∙ ap (λ l. l ++ items_of w (x ∷ [])) k.posted_are ∙ ap (λ l. v.posted ++ l) (items_of_same w x may.its_own);
  ends_last = ends_snoc v.posted x open_yet;
  made_first = may.made_first;
  absent = λ le. absurd (omega arith);
}

-- at another
posts-there : (crew : Crew) (w : ℕ) (v : Worker) (got held : List (Item Out)) (x : Item Out) → (x.from == w) ≡ false → Known crew w v (got ++ held) → Known crew w v (got ++ (held ++ x ∷ []))
posts-there crew w v got held x other k = record {
  inbox = k.inbox;
  posted_are = items_of_more w got held x ∙ ap (λ l. l ++ items_of w (x ∷ [])) k.posted_are ∙ ap (λ l. v.posted ++ l) (rw other refl) ∙ append-nil v.posted;
  ends_last = k.ends_last;
  made_first = k.made_first;
  absent = k.absent;
}

knows-posted : (crew : Crew) (s : World) (w : ℕ) (o : Option (Item Out)) → w < crew.workers → next_post crew w (s.worker w) ≡ o → Knows crew s → Knows crew (posted_to s w o)
knows-posted crew s w None lt is k u = k u
knows-posted crew s w (Some x) lt is k u =
    let next = next_is crew w (s.worker w) x (k w).made_first is in
    if_is (λ (v : Worker). Known crew u v (s.got ++ (s.held ++ x ∷ []))) (w == u) (posts x (s.worker u)) (s.worker u)
    (λ e. subst (λ (n : ℕ). Known crew n (posts x (s.worker n)) (s.got ++ (s.held ++ x ∷ []))) (same_number w u e) (posts-here crew w (s.worker w) s.got s.held x lt next.1 next.0 (k w)))
    (λ e. posts-there crew u (s.worker u) s.got s.held x (ap (λ n. n == u) next.1.its_own ∙ e) (k u))

-- ---- Get, and any step

knows-got : (crew : Crew) (s : World) (held : List (Item Out)) → s.held ≡ held → Knows crew s → Knows crew (got_first s held)
knows-got crew s [] is k u = k u
knows-got crew s (x ∷ rest) is k u =
    subst (λ (l : List (Item Out)). Known crew u (s.worker u) l) (ap (λ l. s.got ++ l) is ∙ sym (append_assoc s.got (x ∷ []) rest)) (k u)

-- a step on one worker's lists that keeps what is known of any worker
knows-at : (crew : Crew) (s : World) (w : ℕ) (change : Worker → Worker) → ((u : ℕ) → Known crew u (change (s.worker u)) (s.got ++ s.held)) → Knows crew s → Knows crew (at w change s)
knows-at crew s w change keeps k u =
    if_is (λ (v : Worker). Known crew u v (s.got ++ s.held)) (w == u) (change (s.worker u)) (s.worker u) (λ e. keeps u) (λ e. k u)

known-quits : (crew : Crew) (w : ℕ) (v : Worker) (outs : List (Item Out)) → Known crew w v outs → Known crew w (quits v) outs
known-quits crew w v outs k = record {
  inbox = record { in_order = k.inbox.in_order; ends_last = k.inbox.ends_last; no_others = k.inbox.no_others };
  posted_are = k.posted_are;
  ends_last = k.ends_last;
  made_first = k.made_first;
  absent = k.absent;
}

pub knows-stepped : (crew : Crew) (s : World) (step : Step) → is_step_of crew step ≡ true → Knows crew s → Knows crew (stepped crew s step)
knows-stepped crew s (Send port w entry) of k =
    knows-at crew s w (sends (record { from = port; entry = entry })) (λ u. known-sends crew u (s.worker u) (s.got ++ s.held) (record { from = port; entry = entry })
    (is_below port crew.ports (and-left (nat_lt port crew.ports) (nat_lt w crew.workers) of)) (k u)) k
knows-stepped crew s (Take w) of k = knows-at crew s w takes (λ u. known-takes crew u (s.worker u) (s.got ++ s.held) (s.worker u).held refl (k u)) k
knows-stepped crew s (Post w) of k = knows-posted crew s w (next_post crew w (s.worker w)) (is_below w crew.workers of) refl k
knows-stepped crew s Get of k = knows-got crew s s.held refl k
knows-stepped crew s (Quit w) of k = knows-at crew s w quits (λ u. known-quits crew u (s.worker u) (s.got ++ s.held) (k u)) k

knows-after : (crew : Crew) (s : World) (steps : List Step) → Knows crew s → Knows crew (after crew s steps)
knows-after crew s [] k = k
knows-after crew s (step ∷ more) k =
    knows-after crew (if is_step_of crew step then stepped crew s step else s) more
    (if_is (λ (t : World). Knows crew t) (is_step_of crew step) (stepped crew s step) s (λ e. knows-stepped crew s step e k) (λ e. k))

pub knows-new : (crew : Crew) → Knows crew new_world
knows-new crew w = record {
  inbox = record { in_order = λ port. refl; ends_last = λ port. tt; no_others = λ port le. refl };
  posted_are = refl;
  ends_last = tt;
  made_first = (all_outs crew w new_worker, refl);
  absent = λ le. refl;
}

pub knows : (crew : Crew) (steps : List Step) → Knows crew (world crew steps)
knows crew steps = knows-after crew new_world steps (knows-new crew)

pub inbox_law : InboxLaw
inbox_law crew steps w = (knows crew steps w).inbox

pub outbox_law : OutboxLaw
outbox_law crew steps w = let k = knows crew steps w in record { in_order = k.posted_are; ends_last = k.ends_last }
