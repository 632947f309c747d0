-- Worlds worked out by computing: two workers and two ports, and what the taker gets.
use Rattle.notifier_model.specs.Tag
use Rattle.notifier_model.specs.Requests
use Rattle.notifier_model.specs.Answers
use Rattle.notifier_model.specs.Out
use Rattle.notifier_model.specs.Rows
use Rattle.notifier_model.specs.Book
use Rattle.notifier_model.specs.Run
use Rattle.subscription.specs.Table
use Rattle.sip_write.specs.Answer as AnswerLayout
use Rattle.sip_write.specs.Notify as NotifyLayout
use Rattle.sip_write.specs.Via as ViaLayout
use Rattle.event_headers.specs.Written as HeaderTexts
use Rattle.rand_chacha.specs.Block
use Rattle.rand_core.specs.Steps
use Rattle.hex.specs.Hex
use Rattle.std.specs.Fmt
use Rattle.std.specs.Prelude.{refl, ◌≡◌, ℕ, Bool, false, List, [], ◌∷◌, map, codes, if◌then◌else◌, ◌==◌, true}
use Rattle.queues.specs.declared.items.Item.{Item}
use Rattle.queues.specs.declared.items.Entry.{Entry}
use Rattle.queues.specs.declared.items.Entry.TheVariants.{Value, End}
use Rattle.package.specs.Content.{OfMail}
use Rattle.package.specs.Changes.{unset}
use Rattle.sip_read.specs.declared.message.Request.{Request}
use Rattle.notifier_model.specs.declared.event.Out.{Out}
use Rattle.notifier_model.specs.declared.event.Out.TheVariants.{Answer, Notify, Start as Begins}
use Rattle.notifier_model.proofs.Examples.{Start, Seen, lists, mail_box, refer_box, start, subscribe, subscribe_1, to_uri, of_call, comes, voice}
use Rattle.schedules.specs.World.{CrewBy, Step, Send, Take, Post, Get, Quit, world}

-- ---- what is shown of an item that the taker got

data Shown : Type 0 where
  AnswerOf : (worker : ℕ) → Shown
  NotifyOf : (worker number : ℕ) (terminated : Bool) → Shown
  StartOf : (worker : ℕ) → Shown
  EndOf : (worker : ℕ) → Shown

abbrev out_shown : ℕ → Out → Shown
out_shown w (Answer to bytes) = AnswerOf w
out_shown w (Notify to number terminated tag note bytes) = NotifyOf w number terminated
out_shown w (Begins tag refer_to) = StartOf w

abbrev shown : ℕ → Entry Out → Shown
shown w (Value out) = out_shown w out
shown w End = EndOf w

-- what the taker got after these steps
unfoldable got : CrewBy lists → List Step → List Shown
unfolding Tag.local_tag Tag.refusal_tag Requests.key_of_request Requests.is_sip_uri Requests.user_part Requests.event_of Requests.asked Requests.granted Requests.asks_nothing Requests.is_unwatched Requests.birth_of Requests.is_malformed Requests.misfit Requests.misplaced_at Requests.is_full Requests.denial Answers.refusal_text Answers.refusal_answer Answers.renewal_answer Answers.birth_answer Answers.kept_answer Answers.ring_with Out.out_of Out.notifications Rows.notify Rows.stays Rows.goes Rows.wherever Rows.opened Rows.turned Rows.tells Rows.sweep Rows.gone_at Rows.forgetting Rows.only Rows.is_dialog Rows.counted Rows.renewed_sub Rows.renewed Rows.tells_change Rows.tells_watcher Rows.ends Rows.is_overdue Rows.times_out Rows.stops Rows.closed Rows.takes_answer Rows.answered Book.new_usage Book.new_want Book.first_step Book.nothing Book.keeping Book.refused Book.all_rows Book.denied Book.accepted Book.new_row Book.first_word Book.first_boxes Book.first_told Book.first_gone Book.first_turned Book.born Book.unless Book.unless_denied Book.in_dialog Book.outside Book.by_to_tag Book.by_kept Book.verdict Book.served Book.content_changed Book.replied Book.ticked Book.shut Book.step Run.empty Run.run_from Run.made_from Run.run Run.made Table.told Table.accept Table.fetch Table.refresh Table.end Table.changed Table.is_answer_to Table.is_refusal_of Table.refused_by AnswerLayout.answer_lines AnswerLayout.answer_text NotifyLayout.notify_lines NotifyLayout.notify_text ViaLayout.with_character ViaLayout.parts_from ViaLayout.marked_parameter ViaLayout.marked_parts ViaLayout.top_via_text HeaderTexts.comma_joined Block.block_word Block.double_rounds Block.diagonal_round Block.column_round Block.quarter_round Steps.u32_at Hex.encode_with Fmt.digits
got crew steps = map (λ (x : Item Out). shown x.from x.entry) (world crew steps).got

-- ---- a crew of two workers with two ports: alice's mailbox is the first worker's, bob's the second's

abbrev bobs_box : Seen
bobs_box = record mail_box { contents = ((codes "bob", OfMail unset) ∷ []) }

abbrev bobs_start : Start
bobs_start = record { place = record (start.place) { worker = 1 }; boxes = bobs_box ∷ refer_box ∷ [] }

abbrev crew : CrewBy lists
crew = record { ports = 2; workers = 2; start = λ w. if w == 0 then start else bobs_start }

abbrev bobs_subscribe : Request
bobs_subscribe = of_call (codes "c3") (to_uri (codes "sip:bob@127.0.0.1") (subscribe (codes "z9hG4bKb1")))

-- ---- Both ports close, and so all is told. What a closed port sends more, and what a worker posts more, is nothing.

abbrev steps_all : List Step
steps_all = Send 0 0 (Value (comes subscribe_1))
    ∷ Send 1 1 (Value (comes bobs_subscribe))
    ∷ Take 1
    ∷ Post 1
    ∷ Take 0
    ∷ Send 0 0 (Value (voice 1))
    ∷ Post 0
    ∷ Post 1
    ∷ Get
    ∷ Post 0
    ∷ Post 0
    ∷ Take 0
    ∷ Get
    ∷ Send 0 0 End ∷ Send 1 0 End ∷ Send 0 1 End ∷ Send 1 1 End
    ∷ Send 0 0 (Value (voice 2))
    ∷ Take 0 ∷ Take 0 ∷ Take 1 ∷ Take 1 ∷ Take 1
    ∷ Post 0 ∷ Post 0 ∷ Post 0
    ∷ Post 1
    ∷ Get ∷ Get ∷ Get ∷ Get ∷ Get ∷ Get ∷ []

all_got : got crew steps_all ≡ AnswerOf 1 ∷ AnswerOf 0 ∷ NotifyOf 1 1 false ∷ NotifyOf 0 1 false ∷ NotifyOf 0 2 false ∷ EndOf 0 ∷ EndOf 1 ∷ []
unfolding got
all_got = refl

-- ---- A worker quits, as it met want of memory: it takes on, and posts its end mark alone.

abbrev steps_quit : List Step
steps_quit = Send 0 0 (Value (comes subscribe_1))
    ∷ Take 0
    ∷ Post 0
    ∷ Quit 0
    ∷ Send 0 0 (Value (voice 1))
    ∷ Send 1 1 (Value (comes bobs_subscribe))
    ∷ Take 0
    ∷ Take 1
    ∷ Post 0 ∷ Post 0
    ∷ Post 1 ∷ Post 1
    ∷ Get ∷ Get ∷ Get ∷ Get ∷ Get ∷ []

quit_got : got crew steps_quit ≡ AnswerOf 0 ∷ EndOf 0 ∷ AnswerOf 1 ∷ NotifyOf 1 1 false ∷ []
unfolding got
quit_got = refl

-- ---- A stop is planned: once all ports have ended, each watcher is told.

abbrev with_stop : Start → Start
with_stop start = record start { place = record (start.place) { stop = true } }

abbrev stopping_crew : CrewBy lists
stopping_crew = record { ports = 2; workers = 2; start = λ w. with_stop (if w == 0 then start else bobs_start) }

abbrev steps_stop : List Step
steps_stop = Send 1 0 (Value (comes subscribe_1))
    ∷ Send 0 0 End ∷ Send 0 1 End
    ∷ Send 1 1 End ∷ Send 1 0 End
    ∷ Take 0 ∷ Take 0
    ∷ Post 0 ∷ Post 0 ∷ Post 0
    ∷ Take 0
    ∷ Take 1 ∷ Take 1
    ∷ Post 0 ∷ Post 0 ∷ Post 0
    ∷ Post 1
    ∷ Get ∷ Get ∷ Get ∷ Get ∷ Get ∷ Get ∷ []

stop_got : got stopping_crew steps_stop ≡ AnswerOf 0 ∷ NotifyOf 0 1 false ∷ NotifyOf 0 2 true ∷ EndOf 0 ∷ EndOf 1 ∷ []
unfolding got
stop_got = refl
