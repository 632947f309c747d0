-- The starts of workers, and what is printed of what they did.
use Rattle.std.proofs.Common.{◌≡◌, ℕ, zero, suc, ◌+◌, ◌<◌, List, [], ◌∷◌, ◌++◌, length, map, get_or, Vec, refl, sym, ap, subst, ◌∙◌, arith}
use Rattle.std.proofs.lemmas.List.{length-map, get_or-map}
use Rattle.std.proofs.lemmas.List.Concat.{flat_map-cons}
use Rattle.std.proofs.lemmas.List.FromFn.{length-enumerate_from}
use Rattle.std.specs.List.{flat_map, enumerate_from}
use Rattle.std.specs.declared.alloc.Global.{Global}
use Rattle.scripts.specs.Page.{worker_text}
use Rattle.package.specs.Content.{Seen}
use Rattle.notifier_model.specs.declared.place.Setup.{Setup}
use Rattle.notifier_model.specs.declared.event.Event.{Event}
use Rattle.notifier_model.specs.declared.event.Out.{Out}
use Rattle.notifier_model.specs.Start.{Start, place_of}
use Rattle.notifier_model.specs.Out.{out_of}
use Rattle.notifier_model.specs.Run.{made}
use Rattle.notifier_model.specs.Home.{at_the_stop}
use Rattle.notifier_model.proofs.HomeFacts.{one_law}
use Rattle.server.specs.declared.work.Work.{Work}
use Rattle.server.specs.Page.{out_text, worker_lines, events_at, worker_page}
use Rattle.crew.specs.Ready.{start_of}
use Rattle.server.specs.Runs.{starts_on, starts_of}
use Rattle.server.specs.Working.{IsWork, AreWorks, AreNumbered, printed}

-- ---- the starts

-- the k-th of these starts
abbrev start_at : Setup → ℕ → List Seen → Start
start_at setup worker boxes = record { place = place_of setup worker; boxes = boxes }

at_from : (setup : Setup) (n : ℕ) (boxes : List (List Seen)) (k : ℕ) (start : Start) (held : List Seen) → k < length boxes
    → get_or (map (λ numbered. let s : Start = record { place = place_of setup numbered.0; boxes = numbered.1 } in s) (enumerate_from n boxes)) k start
    ≡ start_at setup (n + k) (get_or boxes k held)
at_from setup n [] k start held low = absurd (omega arith)
at_from setup n (b ∷ bs) zero start held low = ap (λ (w : ℕ). start_at setup w b) (omega arith)
at_from setup n (b ∷ bs) (suc k) start held low =
    at_from setup (n + 1) bs k start held (omega arith) ∙ ap (λ (w : ℕ). start_at setup w (get_or bs k held)) (omega arith)

pub starts_on-len : (setup : Setup) (boxes : List (List Seen)) → length (starts_on setup boxes) ≡ length boxes
starts_on-len setup boxes = length-map (enumerate_from 0 boxes) _ ∙ length-enumerate_from 0 boxes

pub starts_of-len : {P : Type 0} (seen : P → Seen) (setup : Setup) (boxes : List (Vec P Global)) → length (starts_of seen setup boxes) ≡ length boxes
starts_of-len seen setup boxes = starts_on-len setup (map (λ held. map seen held.items) boxes) ∙ length-map boxes (λ held. map seen held.items)

pub starts_of-at : {P : Type 0} (seen : P → Seen) (setup : Setup) (boxes : List (Vec P Global)) (k : ℕ) (start : Start) (held : Vec P Global) → k < length boxes
    → get_or (starts_of seen setup boxes) k start ≡ start_of seen setup k (get_or boxes k held).items
starts_of-at {P = P} seen setup boxes k start held low =
    let all : List (List Seen) = map (λ (h : Vec P Global). map seen h.items) boxes in
    let len : length all ≡ length boxes = length-map boxes (λ (h : Vec P Global). map seen h.items) in
    at_from setup 0 all k start (map seen held.items) (omega arith)
    ∙ ap (λ (w : ℕ). start_at setup w (get_or all k (map seen held.items))) (omega arith)
    ∙ ap (start_at setup k) (get_or-map (λ (h : Vec P Global). map seen h.items) boxes k held (map seen held.items) low)

pub starts_of-numbered : {P : Type 0} (seen : P → Seen) (setup : Setup) (boxes : List (Vec P Global)) (held : Vec P Global) → AreNumbered (starts_of seen setup boxes)
starts_of-numbered seen setup boxes held k start low =
    let len = starts_of-len seen setup boxes in
    ap (λ (s : Start). s.place.worker) (starts_of-at seen setup boxes k start held (omega arith))

-- ---- one worker alone

one_each : (start : Start) (given : Start → List Event) (work : Work) → IsWork start (given start) work
    → (k : ℕ) (s : Start) (w : Work) → k < 1 → IsWork (get_or (start ∷ []) k s) (given (get_or (start ∷ []) k s)) (get_or (work ∷ []) k w)
one_each start given work is zero s w low = is
one_each start given work is (suc k) s w low = absurd (omega arith)

pub one_works : {P : Type 0} (seen : P → Seen) (setup : Setup) (boxes : List P) (es : List Event) (work : Work)
    → IsWork (start_of seen setup 0 boxes) (es ++ at_the_stop setup.stop) work
    → AreWorks (start_of seen setup 0 boxes ∷ []) (events_at (length (start_of seen setup 0 boxes ∷ [])) es) (work ∷ [])
one_works seen setup boxes es work is =
    let start : Start = start_of seen setup 0 boxes in
    record {
      len = refl;
      each = one_each start (events_at 1 es) work (subst (λ (l : List Event). IsWork start (l ++ at_the_stop setup.stop) work) (sym (one_law es)) is);
    }

-- ---- what code hands on

pub some_there : (n : ℕ) → (n ≡ 0 → ⊥) → 0 < n
some_there zero none = absurd (none refl)
some_there (suc n) none = omega arith

-- ---- what is printed

page_is : (start : Start) (es : List Event) (work : Work) → IsWork start es work → printed work ≡ worker_lines start.place.worker es (map out_of (made start es))
page_is start es work is =
    ap (λ (n : ℕ). worker_text n work.handled (length work.outs.items) ++ flat_map out_text work.outs.items) is.number
    ∙ ap (λ (n : ℕ). worker_text start.place.worker n (length work.outs.items) ++ flat_map out_text work.outs.items) is.handled
    ∙ ap (λ (os : List Out). worker_lines start.place.worker es os) is.outs

same_pieces : {A B X : Type 0} (f : A → List X) (g : B → List X) (xs : List A) (ys : List B) → length xs ≡ length ys
    → ((k : ℕ) (a : A) (b : B) → k < length ys → f (get_or xs k a) ≡ g (get_or ys k b)) → flat_map f xs ≡ flat_map g ys
same_pieces f g [] [] len each = refl
same_pieces f g [] (b ∷ ys) len each = absurd (omega (arith, len))
same_pieces f g (a ∷ xs) [] len each = absurd (omega (arith, len))
same_pieces f g (a ∷ xs) (b ∷ ys) len each =
    let first : f a ≡ g b = each 0 a b (omega arith) in
    let rest : flat_map f xs ≡ flat_map g ys = same_pieces f g xs ys (omega arith) (λ k x y low. each (suc k) x y (omega arith)) in
    flat_map-cons f a xs ∙ ap (λ t. t ++ flat_map f xs) first ∙ ap (λ t. g b ++ t) rest ∙ sym (flat_map-cons g b ys)

pub works_page : (n : ℕ) (starts : List Start) (es : List Event) (works : List Work) → AreWorks starts (events_at n es) works → flat_map printed works ≡ flat_map (worker_page n es) starts
works_page n starts es works are = same_pieces printed (worker_page n es) works starts are.len
    (λ k work start low. page_is (get_or starts k start) (events_at n es (get_or starts k start)) (get_or works k work) (are.each k start work low))
