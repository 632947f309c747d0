-- Lives worked out by computing: what the watcher is told in each.
use Rattle.std.specs.Prelude.{refl, ◌≡◌, ℕ, true, List, [], ◌∷◌, ◌++◌, map, Option, Some, None, codes}
use Rattle.sip_text.specs.declared.field.Field.TheVariants.{Absent, Bad, Value}
use Rattle.event_headers.specs.Written.{state_text}
use Rattle.sip_read.specs.declared.message.Request.{Request}
use Rattle.package.specs.declared.counts.Class.TheVariants.{Voice, Fax, Text as TextMessages}
use Rattle.notifier_model.specs.declared.event.Event.{Event}
use Rattle.notifier_model.specs.declared.event.Event.TheVariants.{Request as Comes, Tick as Ticks, Shut}
use Rattle.notifier_model.specs.Out.{Notification}
use Rattle.notifier_model.proofs.Examples.{Start, Bytes, port, usual, mail_box, refer_box, presence_box, start_with, start, tag_1, tag_2, subscribe, subscribe_1, subscribe_2, subscribe_3, refer, refer_1, unwatched, for_time, for_event, to_uri, of_call, with_method, within, comes, reply_from, reply, mail_for, mail, voice, progress}
use Rattle.notifier_model.specs.Tag
use Rattle.notifier_model.specs.Requests
use Rattle.subscription.specs.Table
use Rattle.life.specs.Past
use Rattle.life.specs.Life
use Rattle.life.specs.Lives
use Rattle.life.specs.Notices
use Rattle.life.specs.Life.{Life, Born, Then, Heard, MailChanged, Due, Answered, Lost, Stopped}
use Rattle.life.specs.Lives.{life}
use Rattle.life.specs.Notices.{notices, newest_first}
use Rattle.rand_chacha.specs.Block
use Rattle.rand_core.specs.Steps
use Rattle.hex.specs.Hex
use Rattle.std.specs.Fmt

-- ---- what is shown of a notice: its number, its Subscription-State, its body, and the port that it goes to

data Shown : Type 0 where
  Told : (number : ℕ) (state body : Bytes) (port : ℕ) → Shown

abbrev shown : Notification → Shown
shown n = Told n.number (state_text n.state) n.body n.to.port

-- what the watcher of this subscription is told of these events
unfoldable told : Start → ℕ → List Event → List Shown
unfolding Tag.local_tag Tag.refusal_tag Requests.key_of_request Requests.is_sip_uri Requests.user_part Requests.event_of Requests.asked Requests.granted Requests.asks_nothing Requests.is_unwatched Requests.birth_of Requests.is_malformed Requests.misfit Requests.misplaced_at Requests.is_full Requests.denial Table.told Table.accept Table.fetch Table.refresh Table.end Table.changed Table.is_answer_to Block.block_word Block.double_rounds Block.diagonal_round Block.column_round Block.quarter_round Steps.u32_at Hex.encode_with Fmt.digits Past.now Past.last_counts Past.mail_content Past.content Past.is_among Past.keys_with Past.keys Past.is_fresh Past.fits Life.birth Life.last_heard Life.cseqs Life.is_above Life.address Life.end_of_grant Life.status Life.is_touched Life.number Life.just_made Life.unanswered Life.is_overdue Life.ended Life.terminated Life.is_removed Life.is_gone Lives.is_in_dialog Lives.is_answer_in_dialog Lives.concerns Lives.may_hear Lives.is_to_notify Lives.answer_deed Lives.is_due Lives.tick_deed Lives.is_changed Lives.deed_at Lives.lived Lives.count_alive Lives.is_birth Lives.begun Lives.befalls Lives.go_on Lives.after Lives.lives Lives.births Lives.life Lives.birth_at Lives.befell Notices.phase Notices.body Notices.notice_of Notices.notices_at Notices.notices
told start serial es = map shown (notices start serial (newest_first es))

-- what befell it
unfoldable life_of : Start → ℕ → List Event → Option Life
unfolding Tag.local_tag Tag.refusal_tag Requests.key_of_request Requests.is_sip_uri Requests.user_part Requests.event_of Requests.asked Requests.granted Requests.asks_nothing Requests.is_unwatched Requests.birth_of Requests.is_malformed Requests.misfit Requests.misplaced_at Requests.is_full Requests.denial Table.told Table.accept Table.fetch Table.refresh Table.end Table.changed Table.is_answer_to Block.block_word Block.double_rounds Block.diagonal_round Block.column_round Block.quarter_round Steps.u32_at Hex.encode_with Fmt.digits Past.now Past.last_counts Past.mail_content Past.content Past.is_among Past.keys_with Past.keys Past.is_fresh Past.fits Life.birth Life.last_heard Life.cseqs Life.is_above Life.address Life.end_of_grant Life.status Life.is_touched Life.number Life.just_made Life.unanswered Life.is_overdue Life.ended Life.terminated Life.is_removed Life.is_gone Lives.is_in_dialog Lives.is_answer_in_dialog Lives.concerns Lives.may_hear Lives.is_to_notify Lives.answer_deed Lives.is_due Lives.tick_deed Lives.is_changed Lives.deed_at Lives.lived Lives.count_alive Lives.is_birth Lives.begun Lives.befalls Lives.go_on Lives.after Lives.lives Lives.births Lives.life Lives.birth_at Lives.befell Notices.phase Notices.body Notices.notice_of Notices.notices_at Notices.notices
life_of start serial es = life start (newest_first es) serial

-- ---- bodies and messages

abbrev lines : List Bytes → Bytes
lines [] = []
lines (a ∷ more) = a ++ (13 ∷ 10 ∷ lines more)

-- the body of a mailbox of which no class was ever set
abbrev none : Bytes
none = lines (codes "Messages-Waiting: no" ∷ [])

-- the body of a mailbox with new voice messages, one or two
abbrev one_new : Bytes
one_new = lines (codes "Messages-Waiting: yes" ∷ codes "Voice-Message: 1/0 (0/0)" ∷ [])

abbrev two_new : Bytes
two_new = lines (codes "Messages-Waiting: yes" ∷ codes "Voice-Message: 2/0 (0/0)" ∷ [])

-- a SUBSCRIBE with the id `A` in a dialog
abbrev a_dialog : Bytes → Bytes → ℕ → Request
a_dialog branch tag cseq = within tag cseq (for_event (codes "message-summary") (Some (codes "A")) (subscribe branch))

-- refreshes of the first subscription
abbrev too_brief : Request
too_brief = for_time 59 (within tag_1 2 subscribe_2)

abbrev for_a_minute : Request
for_a_minute = for_time 60 (within tag_1 3 subscribe_3)

-- a request that came through another address than its own, with a bare `rport`
abbrev behind : Request
behind = record subscribe_1 {
  head = record (subscribe_1.head) {
    vias = codes "SIP/2.0/UDP 10.0.0.9:5070;rport;branch=z9hG4bKb1" ∷ codes "SIP/2.0/UDP far" ∷ [];
    top = record { sent_by = codes "10.0.0.9:5070"; branch = Some (codes "z9hG4bKb1"); bare_rport = true };
    call_id = codes "c2";
  };
  contact = Value (codes "sip:alice@10.0.0.9:5070");
  record_routes = codes "<sip:p1;lr>" ∷ codes "<sip:p2;lr>" ∷ [];
}

-- ---- a whole life

-- A SUBSCRIBE; mail, and the same again; the watcher answers; time goes on; a refresh that asks too little; one from another
-- address that asks for a minute; the watcher answers; the minute is over; mail
abbrev events_whole_life : List Event
events_whole_life = comes subscribe_1
    ∷ voice 1
    ∷ voice 1
    ∷ reply 200 1
    ∷ reply 200 2
    ∷ Ticks 100
    ∷ comes too_brief
    ∷ Comes (port 5080) for_a_minute
    ∷ reply 200 3
    ∷ Ticks 160
    ∷ voice 2 ∷ []

-- what befell it, newest first
whole_life : life_of start 1 events_whole_life ≡
    Some (Then 160 Due (Then 100 (Answered 3) (Then 100 (Heard (port 5080) for_a_minute) (Then 100 (Heard (port 5070) too_brief)
    (Then 0 (Answered 2) (Then 0 (Answered 1) (Then 0 MailChanged (Born 0 (port 5070) subscribe_1))))))))
unfolding life_of
whole_life = refl

-- what its watcher is told
whole_life_told : told start 1 events_whole_life ≡
    Told 1 (codes "active;expires=3600") none 5070
    ∷ Told 2 (codes "active;expires=3600") one_new 5070
    ∷ Told 3 (codes "active;expires=60") one_new 5080
    ∷ Told 4 (codes "terminated;reason=timeout") one_new 5080 ∷ []
unfolding told
whole_life_told = refl

-- ---- lives

-- A SUBSCRIBE, and nothing more
subscribed : told start 1 (comes subscribe_1 ∷ []) ≡ Told 1 (codes "active;expires=3600") none 5070 ∷ []
unfolding told
subscribed = refl

-- the NOTIFY goes to where the request came from
through_another : told start 1 (Comes (port 40000) behind ∷ []) ≡ Told 1 (codes "active;expires=3600") none 40000 ∷ []
unfolding told
through_another = refl

-- A refresh from another address (RFC 6665 section 4.2.1.4): what follows goes there
abbrev events_moved : List Event
events_moved = comes subscribe_1
    ∷ Comes (port 5080) (within tag_1 2 subscribe_2)
    ∷ voice 1 ∷ []

moved : told start 1 events_moved ≡
    Told 1 (codes "active;expires=3600") none 5070
    ∷ Told 2 (codes "active;expires=3600") none 5080
    ∷ Told 3 (codes "active;expires=3600") one_new 5080 ∷ []
unfolding told
moved = refl

-- A fetch (RFC 6665 section 4.4.3): one NOTIFY, and no subscription
abbrev events_fetched : List Event
events_fetched = comes (for_time 0 subscribe_1)
    ∷ voice 1 ∷ []

fetched : told start 1 events_fetched ≡
    Told 1 (codes "terminated;reason=timeout") none 5070 ∷ []
unfolding told
fetched = refl

-- A time below the least one (RFC 6665 section 4.2.1.1), then the least one in a new request
abbrev events_too_little : List Event
events_too_little = comes (for_time 59 subscribe_1)
    ∷ comes (for_time 60 (record subscribe_2 { head = record subscribe_2.head { cseq = 2 } })) ∷ []

too_little_1 : told start 1 events_too_little ≡
    Told 1 (codes "active;expires=60") none 5070 ∷ []
unfolding told
too_little_1 = refl

too_little_2 : told start 2 events_too_little ≡ []
unfolding told
too_little_2 = refl

-- More time than there is to grant
abbrev events_too_long : List Event
events_too_long = comes (for_time 4294967295 subscribe_1) ∷ []

too_long : told start 1 events_too_long ≡
    Told 1 (codes "active;expires=86400") none 5070 ∷ []
unfolding told
too_long = refl

-- An Expires that cannot be read
abbrev events_bad_expires : List Event
events_bad_expires = comes (record subscribe_1 { expires = Bad }) ∷ []

bad_expires : told start 1 events_bad_expires ≡ []
unfolding told
bad_expires = refl

-- Each NOTIFY shows all that the mailbox holds
abbrev events_mail_comes : List Event
events_mail_comes = comes subscribe_1
    ∷ mail Voice 2 8 0 2
    ∷ mail Fax 1 0 0 0 ∷ []

mail_comes : told start 1 events_mail_comes ≡
    Told 1 (codes "active;expires=3600") none 5070
    ∷ Told 2 (codes "active;expires=3600") (lines (codes "Messages-Waiting: yes" ∷ codes "Voice-Message: 2/8 (0/2)" ∷ [])) 5070
    ∷ Told 3 (codes "active;expires=3600") (lines (codes "Messages-Waiting: yes" ∷ codes "Voice-Message: 2/8 (0/2)" ∷ codes "Fax-Message: 1/0 (0/0)" ∷ [])) 5070 ∷ []
unfolding told
mail_comes = refl

-- What changes nothing gives no NOTIFY
abbrev events_same_mail : List Event
events_same_mail = comes subscribe_1
    ∷ mail Voice 2 8 0 2
    ∷ mail Voice 2 8 0 2
    ∷ mail TextMessages 0 0 0 0
    ∷ mail_for (codes "bob") Voice 1 0 0 0 ∷ []

same_mail : told start 1 events_same_mail ≡
    Told 1 (codes "active;expires=3600") none 5070
    ∷ Told 2 (codes "active;expires=3600") (lines (codes "Messages-Waiting: yes" ∷ codes "Voice-Message: 2/8 (0/2)" ∷ [])) 5070
    ∷ Told 3 (codes "active;expires=3600") (lines (codes "Messages-Waiting: yes" ∷ codes "Voice-Message: 2/8 (0/2)" ∷ codes "Text-Message: 0/0 (0/0)" ∷ [])) 5070 ∷ []
unfolding told
same_mail = refl

-- The time granted is over
abbrev events_expired : List Event
events_expired = comes (for_time 60 subscribe_1)
    ∷ reply 200 1
    ∷ Ticks 59
    ∷ Ticks 60
    ∷ voice 1 ∷ []

expired : told start 1 events_expired ≡
    Told 1 (codes "active;expires=60") none 5070
    ∷ Told 2 (codes "terminated;reason=timeout") none 5070 ∷ []
unfolding told
expired = refl

-- A Tick above the latest moment changes nothing
abbrev events_tick_too_late : List Event
events_tick_too_late = comes subscribe_1
    ∷ Ticks 9223372036854775808
    ∷ voice 1 ∷ []

tick_too_late : told start 1 events_tick_too_late ≡
    Told 1 (codes "active;expires=3600") none 5070
    ∷ Told 2 (codes "active;expires=3600") one_new 5070 ∷ []
unfolding told
tick_too_late = refl

-- The time that is left
abbrev events_time_left : List Event
events_time_left = comes subscribe_1
    ∷ reply 200 1
    ∷ Ticks 100
    ∷ voice 1 ∷ []

time_left : told start 1 events_time_left ≡
    Told 1 (codes "active;expires=3600") none 5070
    ∷ Told 2 (codes "active;expires=3500") one_new 5070 ∷ []
unfolding told
time_left = refl

-- A retransmission is answered from the ring
abbrev events_repeated : List Event
events_repeated = comes subscribe_1
    ∷ comes subscribe_1 ∷ []

repeated_1 : told start 1 events_repeated ≡
    Told 1 (codes "active;expires=3600") none 5070 ∷ []
unfolding told
repeated_1 = refl

repeated_2 : told start 2 events_repeated ≡ []
unfolding told
repeated_2 = refl

-- Requests in a dialog, each by its CSeq
abbrev events_in_dialog_all : List Event
events_in_dialog_all = comes (for_event (codes "message-summary") (Some (codes "A")) subscribe_1)
    ∷ comes (a_dialog (codes "z9hG4bKa2") tag_1 1)
    ∷ comes (for_event (codes "message-summary") (Some (codes "a")) (a_dialog (codes "z9hG4bKa3") tag_1 2))
    ∷ comes (a_dialog (codes "z9hG4bKa4") tag_1 2)
    ∷ comes (a_dialog (codes "z9hG4bKa5") (codes "w0-9-0000000000000000") 3)
    ∷ comes (for_time 0 (a_dialog (codes "z9hG4bKa6") tag_1 3))
    ∷ comes (a_dialog (codes "z9hG4bKa7") tag_1 4) ∷ []

in_dialog_all : told start 1 events_in_dialog_all ≡
    Told 1 (codes "active;expires=3600") none 5070
    ∷ Told 2 (codes "terminated;reason=timeout") none 5070 ∷ []
unfolding told
in_dialog_all = refl

-- A 481 to a NOTIFY (RFC 6665 section 4.2.2)
abbrev events_notify_refused : List Event
events_notify_refused = comes subscribe_1
    ∷ voice 1
    ∷ reply 481 2
    ∷ voice 2 ∷ []

notify_refused : told start 1 events_notify_refused ≡
    Told 1 (codes "active;expires=3600") none 5070
    ∷ Told 2 (codes "active;expires=3600") one_new 5070 ∷ []
unfolding told
notify_refused = refl

-- Another answer ends nothing
abbrev events_reply_500 : List Event
events_reply_500 = comes subscribe_1
    ∷ voice 1
    ∷ reply 500 2
    ∷ voice 2 ∷ []

reply_500 : told start 1 events_reply_500 ≡
    Told 1 (codes "active;expires=3600") none 5070
    ∷ Told 2 (codes "active;expires=3600") one_new 5070
    ∷ Told 3 (codes "active;expires=3600") two_new 5070 ∷ []
unfolding told
reply_500 = refl

-- Nor does a 481 to a NOTIFY that was never sent
abbrev events_reply_ahead : List Event
events_reply_ahead = comes subscribe_1
    ∷ voice 1
    ∷ reply 481 3
    ∷ voice 2 ∷ []

reply_ahead : told start 1 events_reply_ahead ≡
    Told 1 (codes "active;expires=3600") none 5070
    ∷ Told 2 (codes "active;expires=3600") one_new 5070
    ∷ Told 3 (codes "active;expires=3600") two_new 5070 ∷ []
unfolding told
reply_ahead = refl

-- A REFER (RFC 3515) to its end
abbrev events_transferred : List Event
events_transferred = comes refer_1
    ∷ progress 180 (codes "Ringing")
    ∷ progress 200 (codes "OK")
    ∷ progress 486 (codes "Busy Here") ∷ []

transferred : told start 1 events_transferred ≡
    Told 1 (codes "active;expires=180") (lines (codes "SIP/2.0 100 Trying" ∷ [])) 5070
    ∷ Told 2 (codes "active;expires=180") (lines (codes "SIP/2.0 180 Ringing" ∷ [])) 5070
    ∷ Told 3 (codes "terminated;reason=noresource") (lines (codes "SIP/2.0 200 OK" ∷ [])) 5070 ∷ []
unfolding told
transferred = refl

-- A 481 to the NOTIFY of a transfer ends it
abbrev events_transfer_refused : List Event
events_transfer_refused = comes refer_1
    ∷ reply_from tag_1 (codes "c7") 481 1
    ∷ progress 180 (codes "Ringing") ∷ []

transfer_refused : told start 1 events_transfer_refused ≡
    Told 1 (codes "active;expires=180") (lines (codes "SIP/2.0 100 Trying" ∷ [])) 5070 ∷ []
unfolding told
transfer_refused = refl

-- The same status twice gives one NOTIFY
abbrev events_same_progress : List Event
events_same_progress = comes refer_1
    ∷ progress 100 (codes "Trying")
    ∷ progress 180 (codes "Ringing")
    ∷ progress 180 (codes "Ringing") ∷ []

same_progress : told start 1 events_same_progress ≡
    Told 1 (codes "active;expires=180") (lines (codes "SIP/2.0 100 Trying" ∷ [])) 5070
    ∷ Told 2 (codes "active;expires=180") (lines (codes "SIP/2.0 180 Ringing" ∷ [])) 5070 ∷ []
unfolding told
same_progress = refl

-- The Expires of a REFER is not looked at
abbrev events_refer_expires : List Event
events_refer_expires = comes (for_time 0 refer_1)
    ∷ comes (record (of_call (codes "c8") (refer (codes "z9hG4bKr2"))) { expires = Bad }) ∷ []

refer_expires_1 : told start 1 events_refer_expires ≡
    Told 1 (codes "active;expires=180") (lines (codes "SIP/2.0 100 Trying" ∷ [])) 5070 ∷ []
unfolding told
refer_expires_1 = refl

refer_expires_2 : told start 2 events_refer_expires ≡
    Told 1 (codes "active;expires=180") (lines (codes "SIP/2.0 100 Trying" ∷ [])) 5070 ∷ []
unfolding told
refer_expires_2 = refl

-- A REFER with no Refer-To, or with two
abbrev events_no_refer_to : List Event
events_no_refer_to = comes (record refer_1 { refer_to = Absent })
    ∷ comes (record (refer (codes "z9hG4bKr2")) { refer_to = Bad }) ∷ []

no_refer_to : told start 1 events_no_refer_to ≡ []
unfolding told
no_refer_to = refl

-- A SUBSCRIBE to `refer`, and to an unknown package
abbrev events_wrong_events : List Event
events_wrong_events = comes (for_event (codes "refer") None subscribe_1)
    ∷ comes (for_event (codes "presence") None subscribe_2) ∷ []

wrong_events : told start 1 events_wrong_events ≡ []
unfolding told
wrong_events = refl

-- The last number that a dialog may use
abbrev events_last_number : List Event
events_last_number = comes subscribe_1
    ∷ voice 1
    ∷ voice 2
    ∷ voice 3 ∷ []

last_number : told (start_with (record usual { max_cseq = 3 })) 1 events_last_number ≡
    Told 1 (codes "active;expires=3600") none 5070
    ∷ Told 2 (codes "active;expires=3600") one_new 5070
    ∷ Told 3 (codes "terminated;reason=deactivated") two_new 5070 ∷ []
unfolding told
last_number = refl

-- Requests that no state can help, in one order
abbrev events_wrong_requests : List Event
events_wrong_requests = comes (with_method (codes "OPTIONS") subscribe_1)
    ∷ comes (to_uri (codes "sips:alice@127.0.0.1") subscribe_2)
    ∷ comes (record subscribe_3 { require = codes "foo" ∷ codes "bar" ∷ [] })
    ∷ comes (with_method (codes "ACK") (subscribe (codes "z9hG4bKa4"))) ∷ []

wrong_requests : told start 1 events_wrong_requests ≡ []
unfolding told
wrong_requests = refl

-- A full table takes a fetch alone
abbrev events_table_full : List Event
events_table_full = comes subscribe_1
    ∷ comes (of_call (codes "c2") subscribe_2)
    ∷ comes (for_time 0 (of_call (codes "c2") subscribe_3)) ∷ []

table_full_1 : told (start_with (record usual { table = 1 })) 1 events_table_full ≡
    Told 1 (codes "active;expires=3600") none 5070 ∷ []
unfolding told
table_full_1 = refl

table_full_2 : told (start_with (record usual { table = 1 })) 2 events_table_full ≡
    Told 1 (codes "terminated;reason=timeout") none 5070 ∷ []
unfolding told
table_full_2 = refl

-- No serial is left
abbrev events_serials_used_up : List Event
events_serials_used_up = comes subscribe_1
    ∷ comes (for_time 0 (of_call (codes "c2") subscribe_3)) ∷ []

serials_used_up_1 : told (start_with (record usual { serials = 1 })) 1 events_serials_used_up ≡
    Told 1 (codes "active;expires=3600") none 5070 ∷ []
unfolding told
serials_used_up_1 = refl

serials_used_up_2 : told (start_with (record usual { serials = 1 })) 2 events_serials_used_up ≡ []
unfolding told
serials_used_up_2 = refl

-- What Accept covers, and a mailbox that is not held
abbrev events_not_acceptable : List Event
events_not_acceptable = comes (record subscribe_1 { accept = Value (record { main = codes "text"; sub = codes "plain" } ∷ []) })
    ∷ comes (to_uri (codes "sip:zoe@127.0.0.1") subscribe_2)
    ∷ comes (record subscribe_3 { accept = Value (record { main = codes "application"; sub = codes "*" } ∷ []) }) ∷ []

not_acceptable : told start 1 events_not_acceptable ≡
    Told 1 (codes "active;expires=3600") none 5070 ∷ []
unfolding told
not_acceptable = refl

-- The ring keeps one answer
abbrev events_ring_of_one : List Event
events_ring_of_one = comes subscribe_1
    ∷ comes (with_method (codes "OPTIONS") subscribe_2)
    ∷ comes subscribe_1 ∷ []

ring_of_one_1 : told (start_with (record usual { kept = 1 })) 1 events_ring_of_one ≡
    Told 1 (codes "active;expires=3600") none 5070 ∷ []
unfolding told
ring_of_one_1 = refl

ring_of_one_2 : told (start_with (record usual { kept = 1 })) 2 events_ring_of_one ≡
    Told 1 (codes "active;expires=3600") none 5070 ∷ []
unfolding told
ring_of_one_2 = refl

-- A refresh, and one that asks too little
abbrev events_refreshed : List Event
events_refreshed = comes subscribe_1
    ∷ comes (for_time 59 (within tag_1 2 subscribe_2))
    ∷ comes (for_time 60 (within tag_1 2 subscribe_3))
    ∷ Ticks 10
    ∷ comes (within tag_1 3 (subscribe (codes "z9hG4bKa4"))) ∷ []

refreshed : told start 1 events_refreshed ≡
    Told 1 (codes "active;expires=3600") none 5070
    ∷ Told 2 (codes "active;expires=3600") none 5070 ∷ []
unfolding told
refreshed = refl

-- A refresh with the last number
abbrev events_refreshed_to_the_last : List Event
events_refreshed_to_the_last = comes subscribe_1
    ∷ comes (within tag_1 2 subscribe_2)
    ∷ comes (within tag_1 3 subscribe_3) ∷ []

refreshed_to_the_last : told (start_with (record usual { max_cseq = 2 })) 1 events_refreshed_to_the_last ≡
    Told 1 (codes "active;expires=3600") none 5070
    ∷ Told 2 (codes "terminated;reason=deactivated") none 5070 ∷ []
unfolding told
refreshed_to_the_last = refl

-- Where one NOTIFY is all, a transfer is forgotten at once
abbrev events_born_last : List Event
events_born_last = comes refer_1
    ∷ progress 180 (codes "Ringing") ∷ []

born_last : told (start_with (record usual { max_cseq = 1 })) 1 events_born_last ≡
    Told 1 (codes "terminated;reason=deactivated") (lines (codes "SIP/2.0 100 Trying" ∷ [])) 5070 ∷ []
unfolding told
born_last = refl

-- A REFER in the dialog of a SUBSCRIBE
abbrev events_refer_within : List Event
events_refer_within = comes subscribe_1
    ∷ comes (of_call (codes "c1") (within tag_1 93 refer_1))
    ∷ comes (within tag_1 2 subscribe_2) ∷ []

refer_within : told start 1 events_refer_within ≡
    Told 1 (codes "active;expires=3600") none 5070 ∷ []
unfolding told
refer_within = refl

-- A package of another kind
abbrev events_third_box : List Event
events_third_box = comes (for_event (codes "presence") None subscribe_1)
    ∷ comes (for_event (codes "dialog") None subscribe_2)
    ∷ voice 1 ∷ []

third_box : told (record start { boxes = mail_box ∷ refer_box ∷ presence_box ∷ [] }) 1 events_third_box ≡
    Told 1 (codes "active;expires=3600") none 5070 ∷ []
unfolding told
third_box = refl

-- Two subscriptions that end at one Tick, by rising serial
abbrev events_two_end : List Event
events_two_end = comes (for_time 120 subscribe_1)
    ∷ comes (for_time 60 (of_call (codes "c2") subscribe_2))
    ∷ voice 1
    ∷ reply 200 1
    ∷ reply 200 2
    ∷ reply_from tag_2 (codes "c2") 200 1
    ∷ reply_from tag_2 (codes "c2") 200 2
    ∷ Ticks 120 ∷ []

two_end_1 : told start 1 events_two_end ≡
    Told 1 (codes "active;expires=120") none 5070
    ∷ Told 2 (codes "active;expires=120") one_new 5070
    ∷ Told 3 (codes "terminated;reason=timeout") one_new 5070 ∷ []
unfolding told
two_end_1 = refl

two_end_2 : told start 2 events_two_end ≡
    Told 1 (codes "active;expires=60") none 5070
    ∷ Told 2 (codes "active;expires=60") one_new 5070
    ∷ Told 3 (codes "terminated;reason=timeout") one_new 5070 ∷ []
unfolding told
two_end_2 = refl

-- A refresh without an Expires gets the time of a SUBSCRIBE that doesn't say
abbrev events_refreshed_at_once : List Event
events_refreshed_at_once = comes subscribe_1 ∷ comes (within tag_1 2 subscribe_2) ∷ []

refreshed_at_once : told start 1 events_refreshed_at_once ≡
    Told 1 (codes "active;expires=3600") none 5070
    ∷ Told 2 (codes "active;expires=3600") none 5070 ∷ []
unfolding told
refreshed_at_once = refl

-- After a 481 to its NOTIFY the dialog is gone
abbrev events_refreshed_too_late : List Event
events_refreshed_too_late = comes subscribe_1 ∷ reply 481 1 ∷ comes (within tag_1 2 subscribe_2) ∷ []

refreshed_too_late : told start 1 events_refreshed_too_late ≡
    Told 1 (codes "active;expires=3600") none 5070 ∷ []
unfolding told
refreshed_too_late = refl

-- ---- the planned stop

-- It ends each subscription with a last NOTIFY; what comes after tells nobody
abbrev events_stopped : List Event
events_stopped = comes subscribe_1
    ∷ Shut
    ∷ Shut
    ∷ voice 1 ∷ []

stopped : life_of start 1 events_stopped ≡ Some (Then 0 Stopped (Born 0 (port 5070) subscribe_1))
unfolding life_of
stopped = refl

stopped_told : told start 1 events_stopped ≡
    Told 1 (codes "active;expires=3600") none 5070
    ∷ Told 2 (codes "terminated;reason=deactivated") none 5070 ∷ []
unfolding told
stopped_told = refl

-- ---- unanswered NOTIFYs

-- A NOTIFY may be unanswered for 31 seconds
abbrev events_patient : List Event
events_patient = comes subscribe_1
    ∷ Ticks 31
    ∷ voice 1 ∷ []

patient : told start 1 events_patient ≡
    Told 1 (codes "active;expires=3600") none 5070
    ∷ Told 2 (codes "active;expires=3569") one_new 5070 ∷ []
unfolding told
patient = refl

-- After 32 its subscription is gone, untold
abbrev events_lost : List Event
events_lost = comes subscribe_1
    ∷ Ticks 32
    ∷ voice 1 ∷ []

lost : life_of start 1 events_lost ≡ Some (Then 32 Lost (Born 0 (port 5070) subscribe_1))
unfolding life_of
lost = refl

lost_told : told start 1 events_lost ≡ Told 1 (codes "active;expires=3600") none 5070 ∷ []
unfolding told
lost_told = refl

-- An answer keeps it
abbrev events_answered : ℕ → List Event
events_answered status = comes subscribe_1
    ∷ reply status 1
    ∷ Ticks 32
    ∷ voice 1 ∷ []

kept_by_an_answer : told start 1 (events_answered 200) ≡
    Told 1 (codes "active;expires=3600") none 5070
    ∷ Told 2 (codes "active;expires=3568") one_new 5070 ∷ []
unfolding told
kept_by_an_answer = refl

-- so does a refusal that is no 481
kept_by_a_refusal : told start 1 (events_answered 500) ≡
    Told 1 (codes "active;expires=3600") none 5070
    ∷ Told 2 (codes "active;expires=3568") one_new 5070 ∷ []
unfolding told
kept_by_a_refusal = refl

-- but not a provisional answer
lost_in_spite_of_a_100 : told start 1 (events_answered 100) ≡ Told 1 (codes "active;expires=3600") none 5070 ∷ []
unfolding told
lost_in_spite_of_a_100 = refl

-- nor an answer to another of its NOTIFYs
abbrev events_second_answered : List Event
events_second_answered = comes subscribe_1
    ∷ voice 1
    ∷ reply 200 2
    ∷ Ticks 32
    ∷ voice 2 ∷ []

lost_by_the_first : told start 1 events_second_answered ≡
    Told 1 (codes "active;expires=3600") none 5070
    ∷ Told 2 (codes "active;expires=3600") one_new 5070 ∷ []
unfolding told
lost_by_the_first = refl

-- nor one in another dialog, nor one that came before the NOTIFY was made
abbrev events_answered_elsewhere : List Event
events_answered_elsewhere = comes subscribe_1
    ∷ reply_from tag_2 (codes "c1") 200 1
    ∷ reply_from tag_1 (codes "c2") 200 1
    ∷ reply 200 2
    ∷ reply 200 1
    ∷ voice 1
    ∷ Ticks 32
    ∷ voice 2 ∷ []

lost_by_the_second : told start 1 events_answered_elsewhere ≡
    Told 1 (codes "active;expires=3600") none 5070
    ∷ Told 2 (codes "active;expires=3600") one_new 5070 ∷ []
unfolding told
lost_by_the_second = refl

-- it is looked at before the time granted
abbrev events_lost_and_due : List Event
events_lost_and_due = comes (for_time 60 subscribe_1)
    ∷ Ticks 60 ∷ []

lost_and_due : told start 1 events_lost_and_due ≡ Told 1 (codes "active;expires=60") none 5070 ∷ []
unfolding told
lost_and_due = refl

-- ---- transfers that nobody watches

-- they take serials, and nobody is told of them
abbrev events_unwatched : List Event
events_unwatched = comes (unwatched refer_1)
    ∷ progress 200 (codes "OK")
    ∷ comes (unwatched (of_call (codes "c8") (refer (codes "z9hG4bKr2"))))
    ∷ comes subscribe_1 ∷ []

unwatched_1 : life_of start 1 events_unwatched ≡ Some (Born 0 (port 5070) (unwatched refer_1))
unfolding life_of
unwatched_1 = refl

unwatched_told : told start 1 events_unwatched ≡ []
unfolding told
unwatched_told = refl

after_unwatched : told start 3 events_unwatched ≡ Told 1 (codes "active;expires=3600") none 5070 ∷ []
unfolding told
after_unwatched = refl

-- `Refer-Sub: true` asks for nothing else than no such line does
watched_told : told start 1 (comes (record refer_1 { refer_sub = Value true }) ∷ []) ≡ Told 1 (codes "active;expires=180") (lines (codes "SIP/2.0 100 Trying" ∷ [])) 5070 ∷ []
unfolding told
watched_told = refl

-- and one that can't be read makes nothing
bad_wish : life_of start 1 (comes (record refer_1 { refer_sub = Bad }) ∷ []) ≡ None
unfolding life_of
bad_wish = refl

-- they need no place in the table, but a serial
abbrev events_full_unwatched : List Event
events_full_unwatched = comes subscribe_1
    ∷ comes (unwatched refer_1) ∷ []

full_unwatched : life_of (start_with (record usual { table = 1 })) 2 events_full_unwatched ≡ Some (Born 0 (port 5070) (unwatched refer_1))
unfolding life_of
full_unwatched = refl

no_serial_unwatched : life_of (start_with (record usual { serials = 1 })) 2 events_full_unwatched ≡ None
unfolding life_of
no_serial_unwatched = refl
