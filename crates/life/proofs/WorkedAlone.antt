-- The law of isolation, computed: what is told of all events, and of a subscription's own events alone.
use Rattle.std.specs.Prelude.{refl, ◌≡◌, ℕ, Bool, true, false, List, [], ◌∷◌, ◌++◌, map, codes}
use Rattle.event_headers.specs.Written.{state_text}
use Rattle.sip_read.specs.declared.message.Request.{Request}
use Rattle.package.specs.declared.counts.Class.TheVariants.{Voice, Fax}
use Rattle.package.specs.Content.{OfMail}
use Rattle.package.specs.Changes.{unset}
use Rattle.notifier_model.specs.declared.event.Event.{Event}
use Rattle.notifier_model.specs.declared.event.Event.TheVariants.{Request as Comes, Progress as Progresses, Tick as Ticks}
use Rattle.notifier_model.specs.Limits.{Limits}
use Rattle.notifier_model.specs.Out.{Notification}
use Rattle.notifier_model.specs.Start.{tag_of}
use Rattle.notifier_model.proofs.Examples.{Start, Seen, Bytes, port, usual, mail_box, refer_box, presence_box, start, tag_1, tag_2, subscribe, subscribe_1, subscribe_2, subscribe_3, refer, refer_1, for_time, to_uri, of_call, within, comes, reply_from, reply, mail_for, voice, progress}
use Rattle.notifier_model.specs.Tag
use Rattle.notifier_model.specs.Requests
use Rattle.subscription.specs.Table
use Rattle.life.specs.Past
use Rattle.life.specs.Life
use Rattle.life.specs.Lives
use Rattle.life.specs.Notices
use Rattle.rand_chacha.specs.Block
use Rattle.rand_core.specs.Steps
use Rattle.hex.specs.Hex
use Rattle.std.specs.Fmt
use Rattle.life.specs.Own
use Rattle.life.specs.Renaming
use Rattle.life.specs.Apart
use Rattle.life.specs.Own.{own}
use Rattle.life.specs.Renaming.{renamed, renamed_event, renamed_request}
use Rattle.life.specs.Apart.{own_requests_are_new}
use Rattle.life.specs.Notices.{notices, newest_first}

-- ---- what is shown of a notice: its number, its Subscription-State, its body, and the port that it goes to

data Shown : Type 0 where
  Told : (number : ℕ) (state body : Bytes) (port : ℕ) → Shown

abbrev shown : Notification → Shown
shown n = Told n.number (state_text n.state) n.body n.to.port

-- what the watcher of this subscription is told of these events
unfoldable told : Start → ℕ → List Event → List Shown
unfolding Tag.local_tag Tag.refusal_tag Requests.key_of_request Requests.is_sip_uri Requests.user_part Requests.event_of Requests.asked Requests.granted Requests.asks_nothing Requests.is_unwatched Requests.birth_of Requests.is_malformed Requests.misfit Requests.misplaced_at Requests.is_full Requests.denial Table.told Table.accept Table.fetch Table.refresh Table.end Table.changed Table.is_answer_to Block.block_word Block.double_rounds Block.diagonal_round Block.column_round Block.quarter_round Steps.u32_at Hex.encode_with Fmt.digits Past.now Past.last_counts Past.mail_content Past.content Past.is_among Past.keys_with Past.keys Past.is_fresh Past.fits Life.birth Life.last_heard Life.cseqs Life.is_above Life.address Life.end_of_grant Life.status Life.is_touched Life.number Life.just_made Life.unanswered Life.is_overdue Life.ended Life.terminated Life.is_removed Life.is_gone Lives.is_in_dialog Lives.is_answer_in_dialog Lives.concerns Lives.may_hear Lives.is_to_notify Lives.answer_deed Lives.is_due Lives.tick_deed Lives.is_changed Lives.deed_at Lives.lived Lives.count_alive Lives.is_birth Lives.begun Lives.befalls Lives.go_on Lives.after Lives.lives Lives.births Lives.life Lives.birth_at Lives.befell Notices.phase Notices.body Notices.notice_of Notices.notices_at Notices.notices
told start serial es = map shown (notices start serial (newest_first es))

-- its own events, renamed, newest first
unfoldable alone_of : Start → Start → ℕ → Request → List Event → List Event
unfolding Tag.local_tag Tag.refusal_tag Requests.key_of_request Requests.is_sip_uri Requests.user_part Requests.event_of Requests.asked Requests.granted Requests.asks_nothing Requests.is_unwatched Requests.birth_of Requests.is_malformed Requests.misfit Requests.misplaced_at Requests.is_full Requests.denial Table.told Table.accept Table.fetch Table.refresh Table.end Table.changed Table.is_answer_to Block.block_word Block.double_rounds Block.diagonal_round Block.column_round Block.quarter_round Steps.u32_at Hex.encode_with Fmt.digits Past.now Past.last_counts Past.mail_content Past.content Past.is_among Past.keys_with Past.keys Past.is_fresh Past.fits Life.birth Life.last_heard Life.cseqs Life.is_above Life.address Life.end_of_grant Life.status Life.is_touched Life.number Life.just_made Life.unanswered Life.is_overdue Life.ended Life.terminated Life.is_removed Life.is_gone Lives.is_in_dialog Lives.is_answer_in_dialog Lives.concerns Lives.may_hear Lives.is_to_notify Lives.answer_deed Lives.is_due Lives.tick_deed Lives.is_changed Lives.deed_at Lives.lived Lives.count_alive Lives.is_birth Lives.begun Lives.befalls Lives.go_on Lives.after Lives.lives Lives.births Lives.life Lives.birth_at Lives.befell Notices.phase Notices.body Notices.notice_of Notices.notices_at Notices.notices Lives.is_born_at Own.is_own Own.own Renaming.renamed_event Renaming.renamed Apart.all_keys Apart.has_new_key Apart.matters Apart.own_requests_are_new
alone_of start other serial x es = renamed (tag_of start.place serial) (tag_of other.place 1) (own start serial x (newest_first es))

-- the same under any tag
unfoldable own_under : Bytes → Start → ℕ → Request → List Event → List Event
unfolding Tag.local_tag Tag.refusal_tag Requests.key_of_request Requests.is_sip_uri Requests.user_part Requests.event_of Requests.asked Requests.granted Requests.asks_nothing Requests.is_unwatched Requests.birth_of Requests.is_malformed Requests.misfit Requests.misplaced_at Requests.is_full Requests.denial Table.told Table.accept Table.fetch Table.refresh Table.end Table.changed Table.is_answer_to Block.block_word Block.double_rounds Block.diagonal_round Block.column_round Block.quarter_round Steps.u32_at Hex.encode_with Fmt.digits Past.now Past.last_counts Past.mail_content Past.content Past.is_among Past.keys_with Past.keys Past.is_fresh Past.fits Life.birth Life.last_heard Life.cseqs Life.is_above Life.address Life.end_of_grant Life.status Life.is_touched Life.number Life.just_made Life.unanswered Life.is_overdue Life.ended Life.terminated Life.is_removed Life.is_gone Lives.is_in_dialog Lives.is_answer_in_dialog Lives.concerns Lives.may_hear Lives.is_to_notify Lives.answer_deed Lives.is_due Lives.tick_deed Lives.is_changed Lives.deed_at Lives.lived Lives.count_alive Lives.is_birth Lives.begun Lives.befalls Lives.go_on Lives.after Lives.lives Lives.births Lives.life Lives.birth_at Lives.befell Notices.phase Notices.body Notices.notice_of Notices.notices_at Notices.notices Lives.is_born_at Own.is_own Own.own Renaming.renamed_event Renaming.renamed Apart.all_keys Apart.has_new_key Apart.matters Apart.own_requests_are_new
own_under tag start serial x es = renamed (tag_of start.place serial) tag (own start serial x (newest_first es))

-- what it is told of its own events alone, by another start
unfoldable told_alone : Start → Start → ℕ → Request → List Event → List Shown
unfolding Tag.local_tag Tag.refusal_tag Requests.key_of_request Requests.is_sip_uri Requests.user_part Requests.event_of Requests.asked Requests.granted Requests.asks_nothing Requests.is_unwatched Requests.birth_of Requests.is_malformed Requests.misfit Requests.misplaced_at Requests.is_full Requests.denial Table.told Table.accept Table.fetch Table.refresh Table.end Table.changed Table.is_answer_to Block.block_word Block.double_rounds Block.diagonal_round Block.column_round Block.quarter_round Steps.u32_at Hex.encode_with Fmt.digits Past.now Past.last_counts Past.mail_content Past.content Past.is_among Past.keys_with Past.keys Past.is_fresh Past.fits Life.birth Life.last_heard Life.cseqs Life.is_above Life.address Life.end_of_grant Life.status Life.is_touched Life.number Life.just_made Life.unanswered Life.is_overdue Life.ended Life.terminated Life.is_removed Life.is_gone Lives.is_in_dialog Lives.is_answer_in_dialog Lives.concerns Lives.may_hear Lives.is_to_notify Lives.answer_deed Lives.is_due Lives.tick_deed Lives.is_changed Lives.deed_at Lives.lived Lives.count_alive Lives.is_birth Lives.begun Lives.befalls Lives.go_on Lives.after Lives.lives Lives.births Lives.life Lives.birth_at Lives.befell Notices.phase Notices.body Notices.notice_of Notices.notices_at Notices.notices Lives.is_born_at Own.is_own Own.own Renaming.renamed_event Renaming.renamed Apart.all_keys Apart.has_new_key Apart.matters Apart.own_requests_are_new
told_alone start other serial x es = map shown (notices other 1 (renamed (tag_of start.place serial) (tag_of other.place 1) (own start serial x (newest_first es))))

unfoldable are_new : Start → ℕ → Request → List Event → Bool
unfolding Tag.local_tag Tag.refusal_tag Requests.key_of_request Requests.is_sip_uri Requests.user_part Requests.event_of Requests.asked Requests.granted Requests.asks_nothing Requests.is_unwatched Requests.birth_of Requests.is_malformed Requests.misfit Requests.misplaced_at Requests.is_full Requests.denial Table.told Table.accept Table.fetch Table.refresh Table.end Table.changed Table.is_answer_to Block.block_word Block.double_rounds Block.diagonal_round Block.column_round Block.quarter_round Steps.u32_at Hex.encode_with Fmt.digits Past.now Past.last_counts Past.mail_content Past.content Past.is_among Past.keys_with Past.keys Past.is_fresh Past.fits Life.birth Life.last_heard Life.cseqs Life.is_above Life.address Life.end_of_grant Life.status Life.is_touched Life.number Life.just_made Life.unanswered Life.is_overdue Life.ended Life.terminated Life.is_removed Life.is_gone Lives.is_in_dialog Lives.is_answer_in_dialog Lives.concerns Lives.may_hear Lives.is_to_notify Lives.answer_deed Lives.is_due Lives.tick_deed Lives.is_changed Lives.deed_at Lives.lived Lives.count_alive Lives.is_birth Lives.begun Lives.befalls Lives.go_on Lives.after Lives.lives Lives.births Lives.life Lives.birth_at Lives.befell Notices.phase Notices.body Notices.notice_of Notices.notices_at Notices.notices Lives.is_born_at Own.is_own Own.own Renaming.renamed_event Renaming.renamed Apart.all_keys Apart.has_new_key Apart.matters Apart.own_requests_are_new
are_new start serial x es = own_requests_are_new start serial x (newest_first es)

-- ---- starts and requests

abbrev lines : List Bytes → Bytes
lines [] = []
lines (a ∷ more) = a ++ (13 ∷ 10 ∷ lines more)

abbrev none : Bytes
none = lines (codes "Messages-Waiting: no" ∷ [])

abbrev one_new : Bytes
one_new = lines (codes "Messages-Waiting: yes" ∷ codes "Voice-Message: 1/0 (0/0)" ∷ [])

abbrev one_fax : Bytes
one_fax = lines (codes "Messages-Waiting: yes" ∷ codes "Fax-Message: 1/0 (0/0)" ∷ [])

-- alice and bob
abbrev both_box : Seen
both_box = record mail_box { contents = ((codes "alice", OfMail unset) ∷ (codes "bob", OfMail unset) ∷ []) }

abbrev bobs_box : Seen
bobs_box = record mail_box { contents = ((codes "bob", OfMail unset) ∷ []) }

abbrev empty_box : Seen
empty_box = record mail_box { contents = [] }

abbrev of_worker : ℕ → List Seen → Limits → Start
of_worker worker boxes limits = record { place = record (start.place) { worker = worker; limits = limits }; boxes = boxes }

abbrev whole : Start
whole = of_worker 1 (both_box ∷ refer_box ∷ []) usual

abbrev bobs : Start
bobs = of_worker 0 (presence_box ∷ bobs_box ∷ []) usual

abbrev bob : Bytes → Request
bob branch = of_call (codes "c3") (to_uri (codes "sip:bob@127.0.0.1") (subscribe branch))

-- the tag of worker 1, serial 2
abbrev bobs_tag : Bytes
bobs_tag = codes "w1-2-f5cf35bd3dd33b80"

-- bob's phone answers the NOTIFY with this number
abbrev answered : ℕ → Event
answered number = reply_from bobs_tag (codes "c3") 200 number

-- ---- two watchers: alice's subscription has serial 1, bob's serial 2

abbrev events_two : List Event
events_two = comes subscribe_1
    ∷ mail_for (codes "bob") Fax 1 0 0 0
    ∷ Ticks 10
    ∷ comes (bob (codes "z9hG4bKb1"))
    ∷ voice 1
    ∷ Comes (port 5080) (for_time 60 (within bobs_tag 2 (bob (codes "z9hG4bKb2"))))
    ∷ mail_for (codes "bob") Voice 0 0 0 0
    ∷ answered 1
    ∷ answered 2
    ∷ answered 3
    ∷ comes (within tag_1 2 subscribe_3)
    ∷ Ticks 70
    ∷ mail_for (codes "bob") Fax 2 0 0 0 ∷ []

-- what bob's phone is told
abbrev bobs_notifies : List Shown
bobs_notifies = Told 1 (codes "active;expires=3600") one_fax 5070
    ∷ Told 2 (codes "active;expires=60") one_fax 5080
    ∷ Told 3 (codes "active;expires=60") (lines (codes "Messages-Waiting: yes" ∷ codes "Voice-Message: 0/0 (0/0)" ∷ codes "Fax-Message: 1/0 (0/0)" ∷ [])) 5080
    ∷ Told 4 (codes "terminated;reason=timeout") (lines (codes "Messages-Waiting: yes" ∷ codes "Voice-Message: 0/0 (0/0)" ∷ codes "Fax-Message: 1/0 (0/0)" ∷ [])) 5080 ∷ []

-- of all this
bobs_told : told whole 2 events_two ≡ bobs_notifies
unfolding told
bobs_told = refl

-- its own events, newest first and under the first tag of worker 0
bobs_own : alone_of whole bobs 2 (bob (codes "z9hG4bKb1")) events_two ≡
    mail_for (codes "bob") Fax 2 0 0 0
    ∷ Ticks 70
    ∷ renamed_event bobs_tag tag_1 (answered 3)
    ∷ renamed_event bobs_tag tag_1 (answered 2)
    ∷ renamed_event bobs_tag tag_1 (answered 1)
    ∷ mail_for (codes "bob") Voice 0 0 0 0
    ∷ Comes (port 5080) (renamed_request bobs_tag tag_1 (for_time 60 (within bobs_tag 2 (bob (codes "z9hG4bKb2")))))
    ∷ comes (bob (codes "z9hG4bKb1"))
    ∷ Ticks 10
    ∷ mail_for (codes "bob") Fax 1 0 0 0 ∷ []
unfolding alone_of renamed_event
bobs_own = refl

bobs_are_new : are_new whole 2 (bob (codes "z9hG4bKb1")) events_two ≡ true
unfolding are_new
bobs_are_new = refl

-- of these alone it is told the same
bobs_told_alone : told_alone whole bobs 2 (bob (codes "z9hG4bKb1")) events_two ≡ bobs_notifies
unfolding told_alone
bobs_told_alone = refl

-- ---- a transfer under serial 2, between others' requests and a 481 to another

abbrev events_transfer : List Event
events_transfer = comes subscribe_1
    ∷ comes refer_1
    ∷ reply_from tag_1 (codes "c1") 481 1
    ∷ progress 180 (codes "Ringing")
    ∷ Progresses (record { tag = tag_2; code = 180; reason = codes "Ringing" })
    ∷ comes (refer (codes "z9hG4bKr2"))
    ∷ Progresses (record { tag = tag_2; code = 200; reason = codes "OK" }) ∷ []

transfer_told : told start 2 events_transfer ≡
    Told 1 (codes "active;expires=180") (lines (codes "SIP/2.0 100 Trying" ∷ [])) 5070
    ∷ Told 2 (codes "active;expires=180") (lines (codes "SIP/2.0 180 Ringing" ∷ [])) 5070
    ∷ Told 3 (codes "terminated;reason=noresource") (lines (codes "SIP/2.0 200 OK" ∷ [])) 5070 ∷ []
unfolding told
transfer_told = refl

transfer_alone : told_alone start (of_worker 0 (refer_box ∷ []) usual) 2 refer_1 events_transfer ≡ told start 2 events_transfer
unfolding told told_alone
transfer_alone = refl

-- ---- what the premises are for

-- One answer is kept, and a request in the dialog has the key of an earlier one but another CSeq. Among all events bob's
-- request stands between them, so it matters as new; alone it is a retransmission.
abbrev kept_one : Limits
kept_one = record usual { kept = 1 }

abbrev events_one_key : List Event
events_one_key = comes subscribe_1
    ∷ comes (within tag_1 2 subscribe_2)
    ∷ comes (bob (codes "z9hG4bKb1"))
    ∷ comes (within tag_1 3 subscribe_2) ∷ []

one_key : told (of_worker 0 (both_box ∷ []) kept_one) 1 events_one_key ≡
    Told 1 (codes "active;expires=3600") none 5070
    ∷ Told 2 (codes "active;expires=3600") none 5070
    ∷ Told 3 (codes "active;expires=3600") none 5070 ∷ []
unfolding told
one_key = refl

one_key_alone : told_alone (of_worker 0 (both_box ∷ []) kept_one) (of_worker 0 (both_box ∷ []) kept_one) 1 subscribe_1 events_one_key ≡
    Told 1 (codes "active;expires=3600") none 5070
    ∷ Told 2 (codes "active;expires=3600") none 5070 ∷ []
unfolding told_alone
one_key_alone = refl

one_key_not_new : are_new (of_worker 0 (both_box ∷ []) kept_one) 1 subscribe_1 events_one_key ≡ false
unfolding are_new
one_key_not_new = refl

-- It is the first box of its package that has to be like: here only the second is.
second_box : told_alone whole (of_worker 0 (empty_box ∷ bobs_box ∷ []) usual) 2 (bob (codes "z9hG4bKb1")) events_two ≡ []
unfolding told_alone
second_box = refl

-- Its birth is a place among the events, and no request: this one came before, and was refused as the table was full.
abbrev no_key : Request
no_key = of_call (codes "c4") (subscribe (codes "a1"))

abbrev table_one : Start
table_one = of_worker 0 (both_box ∷ []) (record usual { table = 1 })

abbrev events_twice : List Event
events_twice = comes subscribe_1
    ∷ comes no_key
    ∷ reply 481 1
    ∷ voice 1
    ∷ comes no_key ∷ []

twice : told table_one 2 events_twice ≡ Told 1 (codes "active;expires=3600") one_new 5070 ∷ []
unfolding told
twice = refl

twice_alone : told_alone table_one table_one 2 no_key events_twice ≡ told table_one 2 events_twice
unfolding told told_alone
twice_alone = refl

-- had its own events both requests, it would be told more
twice_both : told table_one 1 (comes no_key ∷ voice 1 ∷ comes no_key ∷ []) ≡
    Told 1 (codes "active;expires=3600") none 5070
    ∷ Told 2 (codes "active;expires=3600") one_new 5070 ∷ []
unfolding told
twice_both = refl

-- a SUBSCRIBE that comes again is none of its own events, and stands in nobody's way
retransmitted : are_new start 1 subscribe_1 (comes subscribe_1 ∷ comes subscribe_1 ∷ voice 1 ∷ []) ≡ true
unfolding are_new
retransmitted = refl

-- nor does one in the dialog
retransmitted_within : are_new start 1 subscribe_1 (comes subscribe_1 ∷ comes (within tag_1 2 subscribe_2) ∷ comes (within tag_1 2 subscribe_2) ∷ []) ≡ true
unfolding are_new
retransmitted_within = refl

-- ---- one worker or two: bob's subscription is the second of one worker, or the first of worker 1, to which alice's events don't go

abbrev events_one_worker : List Event
events_one_worker = comes subscribe_1 ∷ comes (bob (codes "z9hG4bKa2")) ∷ mail_for (codes "bob") Fax 1 0 0 0 ∷ mail_for (codes "alice") Voice 2 8 0 2 ∷ []

abbrev events_worker_1 : List Event
events_worker_1 = comes (bob (codes "z9hG4bKa2")) ∷ mail_for (codes "bob") Fax 1 0 0 0 ∷ []

two_workers : told (of_worker 1 (bobs_box ∷ refer_box ∷ []) usual) 1 events_worker_1 ≡ told (of_worker 0 (both_box ∷ refer_box ∷ []) usual) 2 events_one_worker
unfolding told
two_workers = refl

-- as its own events are the same, whatever name they are given
two_workers_own : (tag : Bytes) → own_under tag (of_worker 1 (bobs_box ∷ refer_box ∷ []) usual) 1 (bob (codes "z9hG4bKa2")) events_worker_1 ≡ own_under tag (of_worker 0 (both_box ∷ refer_box ∷ []) usual) 2 (bob (codes "z9hG4bKa2")) events_one_worker
unfolding own_under
two_workers_own tag = refl

-- Somebody's request before with the key of one in bob's dialog: among all events bob's matters as a retransmission, and he
-- isn't told; alone he would be. So the key has to be new among all requests before, not among his own.
abbrev events_taken_key : List Event
events_taken_key = comes subscribe_1
    ∷ comes (bob (codes "z9hG4bKb1"))
    ∷ comes (within tag_1 2 subscribe_2)
    ∷ comes (within tag_2 2 (bob (codes "z9hG4bKa2"))) ∷ []

taken_key : told (of_worker 0 (both_box ∷ []) usual) 2 events_taken_key ≡ Told 1 (codes "active;expires=3600") none 5070 ∷ []
unfolding told
taken_key = refl

taken_key_alone : told_alone (of_worker 0 (both_box ∷ []) usual) bobs 2 (bob (codes "z9hG4bKb1")) events_taken_key ≡
    Told 1 (codes "active;expires=3600") none 5070
    ∷ Told 2 (codes "active;expires=3600") none 5070 ∷ []
unfolding told_alone
taken_key_alone = refl

taken_key_not_new : are_new (of_worker 0 (both_box ∷ []) usual) 2 (bob (codes "z9hG4bKb1")) events_taken_key ≡ false
unfolding are_new
taken_key_not_new = refl

-- A request that names bob's tag before he has it, with the key of his SUBSCRIBE: alone his SUBSCRIBE matters as its
-- retransmission, and he isn't born. So the key of the birth has to be new too.
abbrev events_too_early : List Event
events_too_early = comes (within tag_2 2 (bob (codes "z9hG4bKb1")))
    ∷ comes subscribe_1
    ∷ comes (bob (codes "z9hG4bKb1")) ∷ []

too_early : told (of_worker 0 (both_box ∷ []) kept_one) 2 events_too_early ≡ Told 1 (codes "active;expires=3600") none 5070 ∷ []
unfolding told
too_early = refl

too_early_alone : told_alone (of_worker 0 (both_box ∷ []) kept_one) (of_worker 0 (both_box ∷ []) kept_one) 2 (bob (codes "z9hG4bKb1")) events_too_early ≡ []
unfolding told_alone
too_early_alone = refl

-- with a key of its own it does no harm
early : told_alone (of_worker 0 (both_box ∷ []) usual) bobs 2 (bob (codes "z9hG4bKb1")) (comes (within tag_2 2 (bob (codes "z9hG4bKb9"))) ∷ comes subscribe_1 ∷ comes (bob (codes "z9hG4bKb1")) ∷ []) ≡ Told 1 (codes "active;expires=3600") none 5070 ∷ []
unfolding told_alone
early = refl
