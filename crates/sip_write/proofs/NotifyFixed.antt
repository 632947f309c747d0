-- The bytes of a NOTIFY fix its values.
use Rattle.std.proofs.Common.{◌≡◌, ◌≢◌, ℕ, suc, ◌<◌, ◌^◌, true, List, [], ◌∷◌, ◌++◌, length, map, refl, sym, ap, subst, ◌∙◌, append_assoc, arith, codes, decimal}
use Rattle.std.specs.Prelude.{All, Result, Ok}
use Rattle.std.specs.List.{list_all}
use Rattle.std.proofs.lemmas.Bool.Decides.{nat_tests}
use Rattle.std.proofs.lemmas.Fmt.{decimal_injective}
use Rattle.std.proofs.lemmas.List.{length-append, append_cancel_left, append_cancel_right}
use Rattle.event_headers.specs.declared.error.HeaderError.{HeaderError}
use Rattle.sip_text.specs.Grammar.{AllPassing}
use Rattle.event_headers.specs.HeaderReading.{event_of, event_fits, state_of, state_fits}
use Rattle.event_headers.specs.Headers.{IsEvent, EventFits, IsEventValue, IsState, StateFits, IsStateValue, Says, IsExact}
use Rattle.event_headers.specs.Values.{EventValue, StateValue}
use Rattle.event_headers.specs.Written.{event_text, state_text}
use Rattle.event_headers.proofs.Events.{event_takes, event_again, event_fit, event_large}
use Rattle.sip_text.proofs.Pieces.{and_both}
use Rattle.event_headers.proofs.Said.{exact}
use Rattle.event_headers.proofs.States.{state_takes, state_again, state_fit, state_large}
use Rattle.sip_text.proofs.Trims.{all-append}
use Rattle.event_headers.proofs.WrittenTexts.{event_again_read, state_again_read}
use Rattle.sip_read.specs.Calls.{is_visible}
use Rattle.sip_read.proofs.PlainLines.{on_wire}
use Rattle.sip_text.specs.Addresses.{addr_text}
use Rattle.sip_write.specs.Lines.{header, contact_text}
use Rattle.sip_write.specs.Notify.{NotifyText, request_line, via_text}
use Rattle.sip_write.specs.ReadAgain.{is_kept_in_line, IsOneLine, KeepsItsLines, TellsTheSame, NotifyFixesItsValues}
use Rattle.sip_write.proofs.FieldTexts.{all_within, decimal_visible}
use Rattle.sip_write.proofs.NotifyRead.{notify_is, middle_lines, tail_lines, addr_visible, contact_visible, event_visible, state_visible}

-- ---- lines are cut in one way

cut_same : (x y r s : List ℕ) → IsOneLine x → IsOneLine y → x ++ 13 ∷ r ≡ y ++ 13 ∷ s → (x ≡ y) × (r ≡ s)
cut_same [] [] r s a b e = (refl, cc)
cut_same [] (d ∷ y) r s a b e =
    let same : 13 ≡ d = cc in
    let passes : is_kept_in_line 13 ≡ true = subst (λ (k : ℕ). is_kept_in_line k ≡ true) (sym same) (and_both (is_kept_in_line d) (list_all is_kept_in_line y) b).0 in
    absurd cc
cut_same (c ∷ x) [] r s a b e =
    let same : 13 ≡ c = cc in
    let passes : is_kept_in_line 13 ≡ true = subst (λ (k : ℕ). is_kept_in_line k ≡ true) (sym same) (and_both (is_kept_in_line c) (list_all is_kept_in_line x) a).0 in
    absurd cc
cut_same (c ∷ x) (d ∷ y) r s a b e =
    let head : c ≡ d = cc in
    let tail : x ++ 13 ∷ r ≡ y ++ 13 ∷ s = cc in
    let k = cut_same x y r s (and_both (is_kept_in_line c) (list_all is_kept_in_line x) a).1 (and_both (is_kept_in_line d) (list_all is_kept_in_line y) b).1 tail in
    let first = k.0 in
    (cc, k.1)

-- lines that are not empty
abbrev AreOn : List (List ℕ) → Type 0
AreOn [] = Unit {0}
AreOn (line ∷ lines) = IsOneLine line × (line ≢ []) × AreOn lines

lines_same : (xs ys : List (List ℕ)) (r s : List ℕ) → AreOn xs → AreOn ys → on_wire xs ++ 13 ∷ 10 ∷ r ≡ on_wire ys ++ 13 ∷ 10 ∷ s → (xs ≡ ys) × (r ≡ s)
lines_same [] [] r s a b e = (refl, cc)
lines_same [] (y ∷ ys) r s a b e =
    let at : [] ++ 13 ∷ 10 ∷ r ≡ y ++ 13 ∷ (10 ∷ (on_wire ys ++ 13 ∷ 10 ∷ s)) = e ∙ append_assoc y (13 ∷ 10 ∷ on_wire ys) (13 ∷ 10 ∷ s) in
    absurd (b.1 (sym (cut_same [] y (10 ∷ r) (10 ∷ (on_wire ys ++ 13 ∷ 10 ∷ s)) refl b.0 at).0))
lines_same (x ∷ xs) [] r s a b e =
    let at : x ++ 13 ∷ (10 ∷ (on_wire xs ++ 13 ∷ 10 ∷ r)) ≡ [] ++ 13 ∷ 10 ∷ s = sym (append_assoc x (13 ∷ 10 ∷ on_wire xs) (13 ∷ 10 ∷ r)) ∙ e in
    absurd (a.1 (cut_same x [] (10 ∷ (on_wire xs ++ 13 ∷ 10 ∷ r)) (10 ∷ s) a.0 refl at).0)
lines_same (x ∷ xs) (y ∷ ys) r s a b e =
    let at : x ++ 13 ∷ (10 ∷ (on_wire xs ++ 13 ∷ 10 ∷ r)) ≡ y ++ 13 ∷ (10 ∷ (on_wire ys ++ 13 ∷ 10 ∷ s)) =
    sym (append_assoc x (13 ∷ 10 ∷ on_wire xs) (13 ∷ 10 ∷ r)) ∙ e ∙ append_assoc y (13 ∷ 10 ∷ on_wire ys) (13 ∷ 10 ∷ s) in
    let k = cut_same x y (10 ∷ (on_wire xs ++ 13 ∷ 10 ∷ r)) (10 ∷ (on_wire ys ++ 13 ∷ 10 ∷ s)) a.0 b.0 at in
    let first = k.0 in
    let more = k.1 in
    let rest : on_wire xs ++ 13 ∷ 10 ∷ r ≡ on_wire ys ++ 13 ∷ 10 ∷ s = cc in
    let j = lines_same xs ys r s a.2 b.2 rest in
    let others = j.0 in
    (cc, j.1)

ends_same : (x y t u : List (List ℕ)) → length x ≡ length y → x ++ t ≡ y ++ u → t ≡ u
ends_same [] [] t u len e = e
ends_same [] (d ∷ y) t u len e = absurd (omega (arith, len))
ends_same (c ∷ x) [] t u len e = absurd (omega (arith, len))
ends_same (c ∷ x) (d ∷ y) t u len e = let tail : x ++ t ≡ y ++ u = cc in ends_same x y t u (omega (arith, len)) tail

-- ---- the lines of a NOTIFY

named : (c : ℕ) (name value : List ℕ) → IsOneLine (c ∷ name) → IsOneLine value → IsOneLine (header (c ∷ name) value) × (header (c ∷ name) value ≢ [])
named c name value a b = (all-append is_kept_in_line (c ∷ name) (58 ∷ 32 ∷ value) a b, λ e. cc)

routes_on : (routes : List (List ℕ)) (lines : List (List ℕ)) → All IsOneLine routes → AreOn lines → AreOn (map (header (codes "Route")) routes ++ lines)
routes_on [] lines h are = are
routes_on (r ∷ routes) lines h are =
    let k = named 82 (codes "oute") r refl (h 0 r (omega arith)) in
    (k.0, k.1, routes_on routes lines (λ i d lt. h (suc i) d (omega (arith, lt))) are)

visible_kept : (x : ℕ) → is_visible x ≡ true → is_kept_in_line x ≡ true
visible_kept x e = grind (arith, nat_tests)

visible_one : (t : List ℕ) → AllPassing is_visible t → IsOneLine t
visible_one t all = all_within is_visible is_kept_in_line visible_kept t all

decimal_one : (n : ℕ) → n < 2 ^ 64 → IsOneLine (decimal n)
decimal_one n small = visible_one (decimal n) (decimal_visible n small)

more : (x y : List ℕ) → IsOneLine x → IsOneLine y → IsOneLine (x ++ y)
more x y a b = all-append is_kept_in_line x y a b

tail_on : (n : NotifyText) → KeepsItsLines n → AreOn (tail_lines n)
unfolding tail_lines
tail_on n h =
    let number : IsOneLine (decimal n.number) = decimal_one n.number (omega (arith, h.number)) in
    let from = named 70 (codes "rom") _ refl (more n.local (codes ";tag=" ++ n.local_tag) h.local h.local_tag) in
    let to = named 84 (codes "o") n.remote refl h.remote in
    let call = named 67 (codes "all-ID") n.call_id refl h.call_id in
    let cseq = named 67 (codes "Seq") _ refl (more (decimal n.number) (codes " NOTIFY") number refl) in
    let contact = named 67 (codes "ontact") (contact_text n.me) refl (visible_one (contact_text n.me) (contact_visible n.me h.me)) in
    let event = named 69 (codes "vent") (event_text n.event) refl (visible_one (event_text n.event) (event_visible n.event h.event)) in
    let state = named 83 (codes "ubscription-State") (state_text n.state) refl (visible_one (state_text n.state) (state_visible n.state h.state)) in
    let content = named 67 (codes "ontent-Type") n.content_type refl h.content_type in
    let size = named 67 (codes "ontent-Length") (decimal (length n.body)) refl (decimal_one (length n.body) h.body) in
    (from.0, from.1, (to.0, to.1, (call.0, call.1, (cseq.0, cseq.1, (contact.0, contact.1, (event.0, event.1, (state.0, state.1, (content.0, content.1, (size.0, size.1, tt)))))))))

via_one : (n : NotifyText) → KeepsItsLines n → IsOneLine (via_text n)
via_one n h =
    let number : IsOneLine (decimal n.number) = decimal_one n.number (omega (arith, h.number)) in
    more (addr_text n.me) (codes ";branch=z9hG4bK-" ++ (n.local_tag ++ (codes "-" ++ decimal n.number))) (visible_one (addr_text n.me) (addr_visible n.me h.me)) (more n.local_tag (codes "-" ++ decimal n.number) h.local_tag number)

middle_on : (n : NotifyText) → KeepsItsLines n → AreOn (middle_lines n)
unfolding tail_lines
middle_on n h =
    let via = named 86 (codes "ia") (via_text n) refl (via_one n h) in
    let max = named 77 (codes "ax-Forwards") (codes "70") refl refl in
    (via.0, via.1, (max.0, max.1, routes_on n.routes (tail_lines n) h.routes (tail_on n h)))

request_one : (target : List ℕ) → IsOneLine target → IsOneLine (request_line target)
request_one target h = more target (codes " SIP/2.0") h refl

-- ---- from the lines to the values

abbrev first : List (List ℕ) → List ℕ
first [] = []
first (x ∷ xs) = x

abbrev others : List (List ℕ) → List (List ℕ)
others [] = []
others (x ∷ xs) = xs

-- a value that both texts say
one_value : {V : Type 0} (Is : List ℕ → V → Type 0) (Fits : V → Type 0) → IsExact Is Fits → (t u : List ℕ) (x y : V) → Says Is Fits t (Ok x) → Says Is Fits u (Ok y) → t ≡ u → x ≡ y
one_value {V} Is Fits sole t u x y a b e =
    let k = sole t in
    let from_x : Ok x ≡ k.0 = k.2 (Ok x) a in
    let from_y : Ok y ≡ k.0 = k.2 (Ok y) (subst (λ (l : List ℕ). Says Is Fits l (Ok y)) (sym e) b) in
    ok_same x y (from_x ∙ sym from_y) where
      ok_same : (x y : V) → ◌≡◌ {A = Result V HeaderError} (Ok x) (Ok y) → x ≡ y
      ok_same x y e = cc

event_same : (a b : EventValue) → IsEventValue a → IsEventValue b → event_text a ≡ event_text b → a ≡ b
event_same a b h k e =
    one_value IsEvent EventFits (exact IsEvent EventFits event_of event_fits event_takes event_again event_fit event_large) (event_text a) (event_text b) a b (event_again_read a h) (event_again_read b k) e

state_same : (a b : StateValue) → IsStateValue a → IsStateValue b → state_text a ≡ state_text b → a ≡ b
state_same a b h k e =
    one_value IsState StateFits (exact IsState StateFits state_of state_fits state_takes state_again state_fit state_large) (state_text a) (state_text b) a b (state_again_read a h) (state_again_read b k) e

tails_same : (a b : NotifyText) → middle_lines a ≡ middle_lines b → tail_lines a ≡ tail_lines b
unfolding tail_lines
tails_same a b e =
    let routes_a : List (List ℕ) = map (header (codes "Route")) a.routes in
    let routes_b : List (List ℕ) = map (header (codes "Route")) b.routes in
    let behind : routes_a ++ tail_lines a ≡ routes_b ++ tail_lines b = ap (λ (l : List (List ℕ)). others (others l)) e in
    let nine_a : length (tail_lines a) ≡ 9 = refl in
    let nine_b : length (tail_lines b) ≡ 9 = refl in
    ends_same routes_a routes_b (tail_lines a) (tail_lines b) (omega (arith, ap length behind, length-append routes_a (tail_lines a), length-append routes_b (tail_lines b), nine_a, nine_b)) behind

told : (a b : NotifyText) → KeepsItsLines a → KeepsItsLines b → request_line a.target ≡ request_line b.target → tail_lines a ≡ tail_lines b → a.body ≡ b.body → TellsTheSame a b
unfolding tail_lines
told a b h k line e body = record {
  target = append_cancel_right a.target b.target (codes " SIP/2.0") (append_cancel_left (codes "NOTIFY ") _ _ line);
  remote = append_cancel_left (codes "To: ") a.remote b.remote (ap (λ (l : List (List ℕ)). first (others l)) e);
  call_id = append_cancel_left (codes "Call-ID: ") a.call_id b.call_id (ap (λ (l : List (List ℕ)). first (others (others l))) e);
  number = decimal_injective a.number b.number (omega (arith, h.number)) (omega (arith, k.number))
      (append_cancel_right (decimal a.number) (decimal b.number) (codes " NOTIFY") (append_cancel_left (codes "CSeq: ") _ _ (ap (λ (l : List (List ℕ)). first (others (others (others l)))) e)));
  event = event_same a.event b.event h.event k.event (append_cancel_left (codes "Event: ") _ _ (ap (λ (l : List (List ℕ)). first (others (others (others (others (others l)))))) e));
  state = state_same a.state b.state h.state k.state (append_cancel_left (codes "Subscription-State: ") _ _ (ap (λ (l : List (List ℕ)). first (others (others (others (others (others (others l))))))) e));
  content_type = append_cancel_left (codes "Content-Type: ") a.content_type b.content_type (ap (λ (l : List (List ℕ)). first (others (others (others (others (others (others (others l)))))))) e);
  body = body;
}

pub fixes : NotifyFixesItsValues
fixes a b h k e =
    let behind_a : List ℕ = 10 ∷ (on_wire (middle_lines a) ++ 13 ∷ 10 ∷ a.body) in
    let behind_b : List ℕ = 10 ∷ (on_wire (middle_lines b) ++ 13 ∷ 10 ∷ b.body) in
    let at : request_line a.target ++ 13 ∷ behind_a ≡ request_line b.target ++ 13 ∷ behind_b = sym (notify_is a) ∙ e ∙ notify_is b in
    let line = cut_same (request_line a.target) (request_line b.target) behind_a behind_b (request_one a.target h.target) (request_one b.target k.target) at in
    let after = line.1 in
    let section : on_wire (middle_lines a) ++ 13 ∷ 10 ∷ a.body ≡ on_wire (middle_lines b) ++ 13 ∷ 10 ∷ b.body = cc in
    let lines = lines_same (middle_lines a) (middle_lines b) a.body b.body (middle_on a h) (middle_on b k) section in
    told a b h k line.0 (tails_same a b lines.0) lines.1
