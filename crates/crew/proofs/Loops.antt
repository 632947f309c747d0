-- What a worker's loops keep.
use Rattle.std.proofs.Common.{◌≡◌, ℕ, ◌+◌, ◌<◌, List, [], ◌∷◌, ◌++◌, length, take, map, Option, Some, refl, ap, sym, ◌∙◌, subst, arith, length-append, append_assoc}
use Rattle.std.proofs.lemmas.List.Elements.{All-nil, All-same, All-push}
use Rattle.queues.specs.declared.items.Item.{Item}
use Rattle.queues.specs.Ended.{count_ended, AllEnded}
use Rattle.queues.proofs.Ended.{ended_value, ended_more, ended_none, all_ended, ended_all}
use Rattle.notifier_model.specs.declared.event.Event.{Event}
use Rattle.notifier_model.specs.declared.event.Out.{Out}
use Rattle.notifier_model.specs.Book.{Book, step}
use Rattle.notifier_model.specs.Out.{out_of}
use Rattle.notifier_model.specs.Run.{run_from, made_from}
use Rattle.notifier.specs.Standing.{Standing}
use Rattle.queues.specs.InboxSeats.{ReceiverSeat}
use Rattle.queues.specs.InboxTook.{Took}
use Rattle.queues.specs.declared.many_to_one.Taken.{Taken}
use Rattle.queues.specs.declared.many_to_one.Taken.TheVariants as taken
use Rattle.queues.specs.OutboxSeats.{PosterSeat}
use Rattle.queues.specs.Values.{values, values_by, value_item, end_item}
use Rattle.crew.specs.Worked.{outs_for, KeepsQueues, AllFrom}
use Rattle.crew.specs.Loop.{desk_after, HandlesOne, Serving, Stopped}
use Rattle.crew.proofs.Folds.{book_after, values_value, values_end, values_by-append, run_push, outs_push, take_front, take_within, take_whole}

pub took_as : (r r' : ReceiverSeat) (t u : Taken Event) → t ≡ u → Took r t r' → Took r u r'
took_as r r' t u is took = let P : Taken Event → Type 0 = λ v. Took r v r' in subst P is took

from_more : (n m p : ℕ) (xs ys : List (Item Event)) (x : Item Event) → m ≡ n → ys ≡ xs ++ x ∷ [] → x.from < m → AllFrom n xs → AllFrom n ys
from_more n m p xs ys x ports is low was =
    let P : Item Event → Type 0 = λ y. y.from < n in All-same P ys (xs ++ x ∷ []) is (All-push P xs x was (subst (λ k. x.from < k) ports low))

from_event : (n : ℕ) (r r' : ReceiverSeat) (e : Event) → Took r (taken.Event e) r' → r.ports ≡ n → AllFrom n r.taken → AllFrom n r'.taken
from_event n r r' e took ports was = from_more n r.ports took.0 r.taken r'.taken (value_item took.0 e) ports (ap (λ (w : ReceiverSeat). w.taken) took.1) took.2.0 was

from_end : (n : ℕ) (r r' : ReceiverSeat) (q : ℕ) → Took r (taken.Ended q) r' → r.ports ≡ n → AllFrom n r.taken → AllFrom n r'.taken
from_end n r r' q took ports was = from_more n r.ports q r.taken r'.taken (end_item q) ports (ap (λ (w : ReceiverSeat). w.taken) took.0) took.1.0 was

pub from_same : (n : ℕ) (r r' : ReceiverSeat) → r' ≡ r → AllFrom n r.taken → AllFrom n r'.taken
from_same n r r' same was = let P : ReceiverSeat → Type 0 = λ u. AllFrom n u.taken in subst P (sym same) was

-- ---- serving

pub record Running (desk0 : Option Standing) (r0 r : ReceiverSeat) (p0 p : PosterSeat) (left : ℕ) (desk : Option Standing) (handled count : ℕ) : Type 0 where
  pub same : KeepsQueues r0 r p0 p
  pub among : AllFrom r0.ports r.taken
  pub left_is : left + count_ended r0.ports r.taken ≡ r0.ports
  pub serving : (stands : Standing) → desk0 ≡ Some stands → Serving p0.number stands (values r.taken) desk p.posted handled count

none_yet : (stands : Standing) → stands ≡ desk_after stands []
unfolding run_from
none_yet stands = refl

none_made : (stands : Standing) → outs_for stands [] ≡ []
unfolding made_from
none_made stands = refl

pub running_first : (desk : Option Standing) (r : ReceiverSeat) (p : PosterSeat) (left h c : ℕ) → r.taken ≡ [] → p.posted ≡ [] → (h ≡ 0) × (c ≡ 0) → left ≡ r.ports → Running desk r r p p left desk h c
running_first desk r p left h c none unposted zeros all = record {
  same = record { inbox = refl; ports = refl; outbox = refl; number = refl };
  among = (let P : Item Event → Type 0 = λ y. y.from < r.ports in All-same P r.taken [] none (All-nil P));
  left_is = (let e = ended_none r.ports r.taken none in omega arith);
  serving = λ stands is. let e : values r.taken ≡ [] = ap values none in record {
    book = is ∙ ap Some (none_yet stands) ∙ ap (λ es. Some (desk_after stands es)) (sym e);
    posts = unposted ∙ ap (values_by p.number) (sym (none_made stands)) ∙ ap (λ es. values_by p.number (outs_for stands es)) (sym e);
    number = zeros.0 ∙ sym (ap length e);
    total = zeros.1 ∙ sym (ap length (none_made stands)) ∙ ap (λ es. length (outs_for stands es)) (sym e);
  };
}

taken_value : (r r' : ReceiverSeat) (e : Event) → Took r (taken.Event e) r' → (p : ℕ) × (r'.taken ≡ r.taken ++ value_item p e ∷ [])
taken_value r r' e took = (took.0, ap (λ (w : ReceiverSeat). w.taken) took.1)

pub values_taken : (r r' : ReceiverSeat) (e : Event) → Took r (taken.Event e) r' → values r'.taken ≡ values r.taken ++ e ∷ []
values_taken r r' e took = let t = taken_value r r' e took in ap values t.1 ∙ values_value r.taken t.0 e

pub served : (w h h' c c' : ℕ) (stands : Standing) (es es' : List Event) (e : Event) (desk desk' : Option Standing) (p p' : PosterSeat) → es' ≡ es ++ e ∷ [] → p.number ≡ w
    → Serving w stands es desk p.posted h c → HandlesOne (desk_after stands es) e desk' p p' c c' → h' ≡ h + 1 → Serving w stands es' desk' p'.posted h' c'
served w h h' c c' stands es es' e desk desk' p p' m same k one next =
    let sent : List Out = map out_of (step stands.place (book_after stands es) e).outs in
    let o : outs_for stands es' ≡ outs_for stands es ++ sent = ap (outs_for stands) m ∙ outs_push stands es e in record {
      book = one.book ∙ ap (λ (b : Book). Some (record { place = stands.place; book = b })) (sym (run_push stands es e)) ∙ ap (λ l. Some (desk_after stands l)) (sym m);
      posts =
          ap (λ (q : PosterSeat). q.posted) one.posts ∙ ap (λ n. p.posted ++ values_by n sent) same ∙ ap (λ l. l ++ values_by w sent) k.posts
          ∙ sym (values_by-append w (outs_for stands es) sent) ∙ ap (values_by w) (sym o);
      number = next ∙ ap (λ n. n + 1) k.number ∙ sym (ap length m ∙ length-append es (e ∷ []));
      total = one.total ∙ ap (λ n. n + length sent) k.total ∙ sym (ap length o ∙ length-append (outs_for stands es) sent);
    }

module _ {desk0 : Option Standing} {r0 : ReceiverSeat} {p0 : PosterSeat} where
  pub running_event : (r r' : ReceiverSeat) (p p' : PosterSeat) (left h h' c c' : ℕ) (d d' : Option Standing) (e : Event) → Running desk0 r0 r p0 p left d h c → Took r (taken.Event e) r'
      → (p'.outbox ≡ p.outbox) × (p'.number ≡ p.number) → ((s : Standing) → d ≡ Some s → HandlesOne s e d' p p' c c') → h' ≡ h + 1 → Running desk0 r0 r' p0 p' left d' h' c'
  running_event r r' p p' left h h' c c' d d' e was took same one next =
      let t = taken_value r r' e took in
      let more : count_ended r0.ports r'.taken ≡ count_ended r0.ports r.taken = ap (count_ended r0.ports) t.1 ∙ ended_value r0.ports r.taken (value_item t.0 e) refl in record {
        same = record {
          inbox = ap (λ (w : ReceiverSeat). w.inbox) took.1 ∙ was.same.inbox;
          ports = ap (λ (w : ReceiverSeat). w.ports) took.1 ∙ was.same.ports;
          outbox = same.0 ∙ was.same.outbox;
          number = same.1 ∙ was.same.number;
        };
        among = from_event r0.ports r r' e took was.same.ports was.among;
        left_is = (let l = was.left_is in omega arith);
        serving = λ stands is. let k = was.serving stands is in
            served p0.number h h' c c' stands (values r.taken) (values r'.taken) e d d' p p' (values_taken r r' e took) was.same.number k (one (desk_after stands (values r.taken)) k.book) next;
      }

  pub running_end : (r r' : ReceiverSeat) (p : PosterSeat) (left left' h c q : ℕ) (d : Option Standing) → Running desk0 r0 r p0 p left d h c → Took r (taken.Ended q) r' → left' + 1 ≡ left
      → Running desk0 r0 r' p0 p left' d h c
  running_end r r' p left left' h c q d was took one =
      let t : r'.taken ≡ r.taken ++ end_item q ∷ [] = ap (λ (w : ReceiverSeat). w.taken) took.0 in
      let m : values r'.taken ≡ values r.taken = ap values t ∙ values_end r.taken q in
      let low : q < r0.ports = subst (λ n. q < n) was.same.ports took.1.0 in
      let more : count_ended r0.ports r'.taken ≡ count_ended r0.ports r.taken + 1 = ap (count_ended r0.ports) t ∙ ended_more r0.ports r.taken (end_item q) refl low took.1.1 in record {
        same = record {
          inbox = ap (λ (w : ReceiverSeat). w.inbox) took.0 ∙ was.same.inbox;
          ports = ap (λ (w : ReceiverSeat). w.ports) took.0 ∙ was.same.ports;
          outbox = was.same.outbox;
          number = was.same.number;
        };
        among = from_end r0.ports r r' q took was.same.ports was.among;
        left_is = (let l = was.left_is in omega arith);
        serving = λ stands is. let k = was.serving stands is in record {
          book = k.book ∙ ap (λ es. Some (desk_after stands es)) (sym m);
          posts = k.posts ∙ ap (λ es. values_by p0.number (outs_for stands es)) (sym m);
          number = k.number ∙ ap length (sym m);
          total = k.total ∙ ap (λ es. length (outs_for stands es)) (sym m);
        };
      }

pub stopped_whole : (w h c : ℕ) (stands : Standing) (es : List Event) (desk : Option Standing) (ps : List (Item Out)) → Serving w stands es desk ps h c → Stopped w stands es ps h c
stopped_whole w h c stands es desk ps k =
    let t : take h es ≡ es = take_whole h es k.number in record {
      posts = k.posts ∙ ap (λ l. values_by w (outs_for stands l)) (sym t);
      total = k.total ∙ ap (λ l. length (outs_for stands l)) (sym t);
    }

-- the next event was not handled
pub stopped_before : (w h h' c c' : ℕ) (stands : Standing) (es es' : List Event) (e : Event) (desk : Option Standing) (ps qs : List (Item Out)) → Serving w stands es desk ps h c → es' ≡ es ++ e ∷ []
    → (qs ≡ ps) × (h' ≡ h) × (c' ≡ c) → Stopped w stands es' qs h' c' × (h' < length es')
stopped_before w h h' c c' stands es es' e desk ps qs k m same =
    let t : take h es' ≡ es = ap (take h) m ∙ take_front h es (e ∷ []) k.number in
    let P : List (Item Out) × ℕ × ℕ → Type 0 = λ n. Stopped w stands es' n.0 n.1 n.2 × (n.1 < length es') in
    let before : P (ps, h, c) = (
      record { posts = k.posts ∙ ap (λ l. values_by w (outs_for stands l)) (sym t); total = k.total ∙ ap (λ l. length (outs_for stands l)) (sym t) },
      (let n = ap length m in let z = k.number in omega (arith, length-append es (e ∷ []))),
    ) in
    subst P (λ i. (sym same.0 i, sym same.1 i, sym same.2 i)) before

module _ {desk0 : Option Standing} {r0 : ReceiverSeat} {p0 : PosterSeat} (r : ReceiverSeat) (p : PosterSeat) (left h c : ℕ) (d : Option Standing) (was : Running desk0 r0 r p0 p left d h c) where
  pub finished : left ≡ 0 → (stands : Standing) → desk0 ≡ Some stands → Serving p0.number stands (values r.taken) d p.posted h c × AllEnded r0.ports r.taken
  finished none stands is = (was.serving stands is, all_ended r0.ports r.taken (let l = was.left_is in omega arith))

  stays : (left ≡ 0 → ⊥) → (stands : Standing) → desk0 ≡ Some stands → Serving p0.number stands (values r.taken) d p.posted h c × (AllEnded r0.ports r.taken → ⊥)
  stays some stands is = (was.serving stands is, λ all. some (let e = ended_all r0.ports r.taken all in let l = was.left_is in omega arith))

  pub deserted : (r' : ReceiverSeat) → r' ≡ r → (left ≡ 0 → ⊥) → (stands : Standing) → desk0 ≡ Some stands
      → Serving p0.number stands (values r'.taken) d p.posted h c × (AllEnded r0.ports r'.taken → ⊥)
  deserted r' same some stands is =
      let P : ReceiverSeat → Type 0 = λ u. Serving p0.number stands (values u.taken) d p.posted h c × (AllEnded r0.ports u.taken → ⊥) in subst P (sym same) (stays some stands is)

  pub among_event : (r' : ReceiverSeat) (e : Event) → Took r (taken.Event e) r' → AllFrom r0.ports r'.taken
  among_event r' e took = from_event r0.ports r r' e took was.same.ports was.among

  pub left_event : (r' : ReceiverSeat) (e : Event) → Took r (taken.Event e) r' → left + count_ended r0.ports r'.taken ≡ r0.ports
  left_event r' e took =
      let t = taken_value r r' e took in
      let more : count_ended r0.ports r'.taken ≡ count_ended r0.ports r.taken = ap (count_ended r0.ports) t.1 ∙ ended_value r0.ports r.taken (value_item t.0 e) refl in
      let l = was.left_is in omega arith

  pub full : (r' : ReceiverSeat) (p' : PosterSeat) (h' c' : ℕ) (e : Event) → Took r (taken.Event e) r' → (p' ≡ p) × (h' ≡ h) × (c' ≡ c) → (stands : Standing) → desk0 ≡ Some stands
      → Stopped p0.number stands (values r'.taken) p'.posted h' c' × (h' < length (values r'.taken))
  full r' p' h' c' e took same stands is =
      stopped_before _ _ _ _ _ _ _ _ e d _ _ (was.serving stands is) (values_taken r r' e took) (ap (λ (q : PosterSeat). q.posted) same.0, same.1, same.2)

-- ---- draining

pub record Draining (r0 r : ReceiverSeat) (left : ℕ) : Type 0 where
  pub inbox : r.inbox ≡ r0.inbox
  pub ports : r.ports ≡ r0.ports
  pub among : AllFrom r0.ports r0.taken → AllFrom r0.ports r.taken
  pub left_is : left + count_ended r0.ports r.taken ≡ r0.ports
  pub rest : List (Item Event)
  pub more : r.taken ≡ r0.taken ++ rest

module _ {r0 : ReceiverSeat} where
  pub draining_event : (r r' : ReceiverSeat) (left : ℕ) (e : Event) → Draining r0 r left → Took r (taken.Event e) r' → Draining r0 r' left
  draining_event r r' left e was took =
      let t = taken_value r r' e took in
      let more : count_ended r0.ports r'.taken ≡ count_ended r0.ports r.taken = ap (count_ended r0.ports) t.1 ∙ ended_value r0.ports r.taken (value_item t.0 e) refl in record {
        inbox = ap (λ (w : ReceiverSeat). w.inbox) took.1 ∙ was.inbox;
        ports = ap (λ (w : ReceiverSeat). w.ports) took.1 ∙ was.ports;
        among = λ all. from_event r0.ports r r' e took was.ports (was.among all);
        left_is = (let l = was.left_is in omega arith);
        rest = was.rest ++ value_item t.0 e ∷ [];
        more = t.1 ∙ ap (λ l. l ++ value_item t.0 e ∷ []) was.more ∙ append_assoc r0.taken was.rest (value_item t.0 e ∷ []);
      }

  pub draining_end : (r r' : ReceiverSeat) (left left' q : ℕ) → Draining r0 r left → Took r (taken.Ended q) r' → left' + 1 ≡ left → Draining r0 r' left'
  draining_end r r' left left' q was took one =
      let t : r'.taken ≡ r.taken ++ end_item q ∷ [] = ap (λ (w : ReceiverSeat). w.taken) took.0 in
      let low : q < r0.ports = subst (λ n. q < n) was.ports took.1.0 in
      let more : count_ended r0.ports r'.taken ≡ count_ended r0.ports r.taken + 1 = ap (count_ended r0.ports) t ∙ ended_more r0.ports r.taken (end_item q) refl low took.1.1 in record {
        inbox = ap (λ (w : ReceiverSeat). w.inbox) took.0 ∙ was.inbox;
        ports = ap (λ (w : ReceiverSeat). w.ports) took.0 ∙ was.ports;
        among = λ all. from_end r0.ports r r' q took was.ports (was.among all);
        left_is = (let l = was.left_is in omega arith);
        rest = was.rest ++ end_item q ∷ [];
        more = t ∙ ap (λ l. l ++ end_item q ∷ []) was.more ∙ append_assoc r0.taken was.rest (end_item q ∷ []);
      }

  pub drained : (r : ReceiverSeat) (left : ℕ) → Draining r0 r left → left ≡ 0 → AllEnded r0.ports r.taken
  drained r left was none = all_ended r0.ports r.taken (let l = was.left_is in omega arith)

  pub not_drained : (r r' : ReceiverSeat) (left : ℕ) → Draining r0 r left → r' ≡ r → (left ≡ 0 → ⊥) → AllEnded r0.ports r'.taken → ⊥
  not_drained r r' left was same some all =
      let P : ReceiverSeat → Type 0 = λ u. AllEnded r0.ports u.taken in some (let e = ended_all r0.ports r.taken (subst P same all) in let l = was.left_is in omega arith)

-- what is added later changes nothing
pub stopped_rest : (w h c : ℕ) (stands : Standing) (es es' rest : List Event) (ps : List (Item Out)) → Stopped w stands es ps h c → h < length es → es' ≡ es ++ rest
    → Stopped w stands es' ps h c × (h < length es')
stopped_rest w h c stands es es' rest ps k low is =
    let t : take h es' ≡ take h es = ap (take h) is ∙ take_within h es rest low in (
      record { posts = k.posts ∙ ap (λ l. values_by w (outs_for stands l)) (sym t); total = k.total ∙ ap (λ l. length (outs_for stands l)) (sym t) },
      (let n = ap length is in omega (arith, length-append es rest)),
    )
