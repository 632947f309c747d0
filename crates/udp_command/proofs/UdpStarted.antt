-- A crew with two ports, as it was started.
use Rattle.std.proofs.Common.{◌≡◌, ℕ, ◌<◌, true, List, [], length, map, get_or, Vec, ap, sym, ◌∙◌, arith}
use Rattle.std.specs.declared.alloc.Global.{Global}
use Rattle.std.proofs.lemmas.List.{get_or-map}
use Rattle.std.proofs.lemmas.List.FromFn.{get_or-map-range_with_len}
use Rattle.arguments.specs.declared.udp_arguments.UdpArguments.{UdpArguments}
use Rattle.package.specs.Content.{Seen}
use Rattle.notifier_model.specs.declared.place.Setup.{Setup}
use Rattle.notifier_model.specs.Start.{Start, place_of}
use Rattle.queues.specs.OutboxSeats.{TakerSeat}
use Rattle.crew.specs.Ports.{PortSeats}
use Rattle.crew.specs.Ready.{start_of}
use Rattle.crew.specs.Started.{Hired, IsStarted}
use Rattle.crew.proofs.Keeping.{started_open}
use Rattle.crew.proofs.Starting.{element}
use Rattle.crew.proofs.Starting.{started_as as started_again}
use Rattle.arguments.specs.Setup.{loopback_setup, made_boxes, dealt_boxes, dealt_names}
use Rattle.arguments.proofs.Dealt.{boxes-len}
use Rattle.udp_command.specs.UdpCall.{start_at}

module _ (start : ℕ → Start) {workers n : ℕ} {crew : List Hired} {ports : List PortSeats} {taker : TakerSeat} (is : IsStarted start workers n crew ports taker) where
  pub ports_len : length ports ≡ n
  ports_len = is.dealt.len

  pub taker_new : taker.got ≡ []
  taker_new = ap (λ (t : TakerSeat). t.got) is.takes

  pub taker_workers : taker.workers ≡ workers
  taker_workers = ap (λ (t : TakerSeat). t.workers) is.takes

  -- the s-th port is open, where there are workers
  pub port_open : (s : ℕ) (p : PortSeats) → s < n → 0 < workers → (get_or ports s p).is_open ≡ true
  port_open s p low some = started_open is some s p low

  -- the same under other names of the starts and their number
  pub started_as : (start' : ℕ → Start) (workers' : ℕ) → workers ≡ workers' → ((w : ℕ) → w < workers → start w ≡ start' w) → IsStarted start' workers' n crew ports taker
  started_as start' workers' same each = started_again start start' workers workers' n crew ports taker same each is

module _ {P : Type 0} (seen : P → Seen) (setup : Setup) (boxes : List (Vec P Global)) (call : UdpArguments) (is_setup : setup ≡ loopback_setup call.port call.seed call.stop)
    (are_boxes : map (λ (held : Vec P Global). map seen held.items) boxes ≡ dealt_boxes call.workers call.mailboxes) where
  pub workers_are : length boxes ≡ call.workers
  workers_are = boxes-len (λ (held : Vec P Global). map seen held.items) boxes call.workers call.mailboxes are_boxes

  boxes_at : (w : ℕ) (held : Vec P Global) → w < length boxes → map seen (get_or boxes w held).items ≡ made_boxes (dealt_names call.workers w call.mailboxes)
  boxes_at w held low =
      let len = workers_are in
      sym (get_or-map (λ (h : Vec P Global). map seen h.items) boxes w held (map seen held.items) low)
      ∙ ap (λ (all : List (List Seen)). get_or all w (map seen held.items)) are_boxes
      ∙ get_or-map-range_with_len (λ v. made_boxes (dealt_names call.workers v call.mailboxes)) 0 call.workers w w (map seen held.items) (omega (arith, len, low)) (omega arith)

  -- each worker starts as it was asked for
  pub starts_are : (held : Vec P Global) (w : ℕ) → w < length boxes → start_of seen setup w (get_or boxes w held).items ≡ start_at call w
  starts_are held w low =
      ap (λ (s : Setup). start_of seen s w (get_or boxes w held).items) is_setup
      ∙ ap (λ (b : List Seen). let s : Start = record { place = place_of (loopback_setup call.port call.seed call.stop) w; boxes = b } in s) (boxes_at w held low)

  -- the crew that was asked for
  pub crew_is : (n : ℕ) {crew : List Hired} {ports : List PortSeats} {taker : TakerSeat} → n ≡ length boxes → 0 < call.workers
      → ((held : Vec P Global) → IsStarted (λ w. start_of seen setup w (get_or boxes w held).items) n 2 crew ports taker)
      → IsStarted (start_at call) call.workers 2 crew ports taker
  crew_is n size some started =
      let len = workers_are in
      let held : Vec P Global = element boxes 0 (omega (arith, len, some)) in
      started_as (λ w. start_of seen setup w (get_or boxes w held).items) (started held) (start_at call) call.workers (size ∙ len) (λ w low. starts_are held w (omega (arith, size, low)))
