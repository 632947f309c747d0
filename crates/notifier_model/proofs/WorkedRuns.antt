-- Whole runs of a notifier, worked out by computing.
use Rattle.std.specs.Prelude.{refl, ◌≡◌, ℕ, true, List, [], ◌∷◌, ◌++◌, map, length, Some, None, codes}
use Rattle.sip_text.specs.declared.field.Field.TheVariants.{Absent, Bad, Value}
use Rattle.sip_read.specs.declared.message.Request.{Request}
use Rattle.package.specs.declared.counts.Class.TheVariants.{Voice, Fax, Text as TextMessages}
use Rattle.sip_write.specs.Lines.{joined}
use Rattle.package.specs.Content.{OfStatus}
use Rattle.notifier_model.specs.declared.event.Event.{Event}
use Rattle.notifier_model.specs.declared.event.Event.TheVariants.{Request as Comes, Tick as Ticks, Shut}
use Rattle.notifier_model.proofs.Examples.{port, usual, mail_box, refer_box, presence_box, start_with, start, tag_1, tag_2, tag_3, subscribe, subscribe_1, subscribe_2, subscribe_3, refer, refer_1, unwatched, for_time, for_event, to_uri, of_call, with_method, within, comes, reply_from, reply, mail_for, mail, voice, progress, Answered, Noticed, Started, lines_of, outs, texts, transfer_after, Bytes}

-- ---- a subscription, byte by byte

answer_1 : List Bytes
answer_1 =
    codes "SIP/2.0 200 OK"
    ∷ codes "Via: SIP/2.0/UDP 127.0.0.1:5070;branch=z9hG4bKa1"
    ∷ codes "From: <sip:alice@127.0.0.1>;tag=f1"
    ∷ codes "To: <sip:alice@127.0.0.1>;tag=w0-1-76b8e0ada0f13d90"
    ∷ codes "Call-ID: c1"
    ∷ codes "CSeq: 1 SUBSCRIBE"
    ∷ codes "Contact: <sip:127.0.0.1:5060>"
    ∷ codes "Expires: 3600"
    ∷ codes "Content-Length: 0"
    ∷ [] ∷ []

notify_1 : List Bytes
notify_1 =
    codes "NOTIFY sip:alice@127.0.0.1:5070 SIP/2.0"
    ∷ codes "Via: SIP/2.0/UDP 127.0.0.1:5060;branch=z9hG4bK-w0-1-76b8e0ada0f13d90-1"
    ∷ codes "Max-Forwards: 70"
    ∷ codes "From: <sip:alice@127.0.0.1>;tag=w0-1-76b8e0ada0f13d90"
    ∷ codes "To: <sip:alice@127.0.0.1>;tag=f1"
    ∷ codes "Call-ID: c1"
    ∷ codes "CSeq: 1 NOTIFY"
    ∷ codes "Contact: <sip:127.0.0.1:5060>"
    ∷ codes "Event: message-summary"
    ∷ codes "Subscription-State: active;expires=3600"
    ∷ codes "Content-Type: application/simple-message-summary"
    ∷ codes "Content-Length: 22"
    ∷ [] ∷ codes "Messages-Waiting: no" ∷ []

subscribed : map lines_of (texts start (comes subscribe_1 ∷ [])) ≡ answer_1 ∷ notify_1 ∷ []
unfolding joined texts answer_1 notify_1
subscribed = refl

subscribed_lengths : map length (texts start (comes subscribe_1 ∷ [])) ≡ 254 ∷ 439 ∷ []
unfolding joined texts
subscribed_lengths = refl

-- ---- what is shown in brief

abbrev lines : List Bytes → Bytes
lines [] = []
lines (a ∷ more) = a ++ (13 ∷ 10 ∷ lines more)

-- the body of a mailbox of which no class was ever set
abbrev none : Bytes
none = lines (codes "Messages-Waiting: no" ∷ [])

-- a SUBSCRIBE with the id `A` in a dialog
abbrev a_dialog : Bytes → Bytes → ℕ → Request
a_dialog branch tag cseq = within tag cseq (for_event (codes "message-summary") (Some (codes "A")) (subscribe branch))

-- ---- further texts

too_brief_text : List Bytes
too_brief_text =
    codes "SIP/2.0 423 Interval Too Brief"
    ∷ codes "Via: SIP/2.0/UDP 127.0.0.1:5070;branch=z9hG4bKa1"
    ∷ codes "From: <sip:alice@127.0.0.1>;tag=f1"
    ∷ codes "To: <sip:alice@127.0.0.1>;tag=w0-0"
    ∷ codes "Call-ID: c1"
    ∷ codes "CSeq: 1 SUBSCRIBE"
    ∷ codes "Min-Expires: 60"
    ∷ codes "Content-Length: 0"
    ∷ [] ∷ []

refused_text : map lines_of (texts start (comes (for_time 59 subscribe_1) ∷ [])) ≡ too_brief_text ∷ []
unfolding joined texts too_brief_text
refused_text = refl

refused_length : map length (texts start (comes (for_time 59 subscribe_1) ∷ [])) ≡ 224 ∷ []
unfolding joined texts
refused_length = refl

-- a request that came through another address than its own, with a bare `rport`
abbrev behind : Request
behind = record subscribe_1 {
  head = record (subscribe_1.head) {
    vias = codes "SIP/2.0/UDP 10.0.0.9:5070;rport;branch=z9hG4bKb1" ∷ codes "SIP/2.0/UDP far" ∷ [];
    top = record { sent_by = codes "10.0.0.9:5070"; branch = Some (codes "z9hG4bKb1"); bare_rport = true };
    call_id = codes "c2";
  };
  contact = Value (codes "sip:alice@10.0.0.9:5070");
  record_routes = codes "<sip:p1;lr>" ∷ codes "<sip:p2;lr>" ∷ [];
}

behind_answer : List Bytes
behind_answer =
    codes "SIP/2.0 200 OK"
    ∷ codes "Via: SIP/2.0/UDP 10.0.0.9:5070;rport=40000;branch=z9hG4bKb1;received=127.0.0.1"
    ∷ codes "Via: SIP/2.0/UDP far"
    ∷ codes "Record-Route: <sip:p1;lr>"
    ∷ codes "Record-Route: <sip:p2;lr>"
    ∷ codes "From: <sip:alice@127.0.0.1>;tag=f1"
    ∷ codes "To: <sip:alice@127.0.0.1>;tag=w0-1-76b8e0ada0f13d90"
    ∷ codes "Call-ID: c2"
    ∷ codes "CSeq: 1 SUBSCRIBE"
    ∷ codes "Contact: <sip:127.0.0.1:5060>"
    ∷ codes "Expires: 3600"
    ∷ codes "Content-Length: 0"
    ∷ [] ∷ []

behind_notify : List Bytes
behind_notify =
    codes "NOTIFY sip:alice@10.0.0.9:5070 SIP/2.0"
    ∷ codes "Via: SIP/2.0/UDP 127.0.0.1:5060;branch=z9hG4bK-w0-1-76b8e0ada0f13d90-1"
    ∷ codes "Max-Forwards: 70"
    ∷ codes "Route: <sip:p1;lr>"
    ∷ codes "Route: <sip:p2;lr>"
    ∷ codes "From: <sip:alice@127.0.0.1>;tag=w0-1-76b8e0ada0f13d90"
    ∷ codes "To: <sip:alice@127.0.0.1>;tag=f1"
    ∷ codes "Call-ID: c2"
    ∷ codes "CSeq: 1 NOTIFY"
    ∷ codes "Contact: <sip:127.0.0.1:5060>"
    ∷ codes "Event: message-summary"
    ∷ codes "Subscription-State: active;expires=3600"
    ∷ codes "Content-Type: application/simple-message-summary"
    ∷ codes "Content-Length: 22"
    ∷ [] ∷ codes "Messages-Waiting: no" ∷ []

behind_texts : map lines_of (texts start (Comes (port 40000) behind ∷ [])) ≡ behind_answer ∷ behind_notify ∷ []
unfolding joined texts behind_answer behind_notify
behind_texts = refl

-- A fetch (RFC 6665 section 4.4.3): one NOTIFY, and no subscription
abbrev events_fetched : List Event
events_fetched = comes (for_time 0 subscribe_1)
    ∷ voice 1 ∷ []

fetched : outs start events_fetched ≡
    Answered (codes "SIP/2.0 200 OK" ∷ (codes "To: <sip:alice@127.0.0.1>;tag=" ++ tag_1) ∷ codes "Expires: 0" ∷ [])
    ∷ Noticed 1 (codes "terminated;reason=timeout") none
    ∷ []
unfolding joined outs
fetched = refl

-- A time below the least one (RFC 6665 section 4.2.1.1), then the least one in a new request
abbrev events_too_little : List Event
events_too_little = comes (for_time 59 subscribe_1)
    ∷ comes (for_time 60 (record subscribe_2 { head = record subscribe_2.head { cseq = 2 } })) ∷ []

too_little : outs start events_too_little ≡
    Answered (codes "SIP/2.0 423 Interval Too Brief" ∷ codes "To: <sip:alice@127.0.0.1>;tag=w0-0" ∷ codes "Min-Expires: 60" ∷ [])
    ∷ Answered (codes "SIP/2.0 200 OK" ∷ (codes "To: <sip:alice@127.0.0.1>;tag=" ++ tag_1) ∷ codes "Expires: 60" ∷ [])
    ∷ Noticed 1 (codes "active;expires=60") none
    ∷ []
unfolding joined outs
too_little = refl

-- More time than there is to grant
abbrev events_too_long : List Event
events_too_long = comes (for_time 4294967295 subscribe_1) ∷ []

too_long : outs start events_too_long ≡
    Answered (codes "SIP/2.0 200 OK" ∷ (codes "To: <sip:alice@127.0.0.1>;tag=" ++ tag_1) ∷ codes "Expires: 86400" ∷ [])
    ∷ Noticed 1 (codes "active;expires=86400") none
    ∷ []
unfolding joined outs
too_long = refl

-- An Expires that cannot be read
abbrev events_bad_expires : List Event
events_bad_expires = comes (record subscribe_1 { expires = Bad }) ∷ []

bad_expires : outs start events_bad_expires ≡
    Answered (codes "SIP/2.0 400 Bad Request" ∷ codes "To: <sip:alice@127.0.0.1>;tag=w0-0" ∷ [])
    ∷ []
unfolding joined outs
bad_expires = refl

-- Each NOTIFY shows all that the mailbox holds
abbrev events_mail_comes : List Event
events_mail_comes = comes subscribe_1
    ∷ mail Voice 2 8 0 2
    ∷ mail Fax 1 0 0 0 ∷ []

mail_comes : outs start events_mail_comes ≡
    Answered (codes "SIP/2.0 200 OK" ∷ (codes "To: <sip:alice@127.0.0.1>;tag=" ++ tag_1) ∷ codes "Expires: 3600" ∷ [])
    ∷ Noticed 1 (codes "active;expires=3600") none
    ∷ Noticed 2 (codes "active;expires=3600") (lines (codes "Messages-Waiting: yes" ∷ codes "Voice-Message: 2/8 (0/2)" ∷ []))
    ∷ Noticed 3 (codes "active;expires=3600") (lines (codes "Messages-Waiting: yes" ∷ codes "Voice-Message: 2/8 (0/2)" ∷ codes "Fax-Message: 1/0 (0/0)" ∷ []))
    ∷ []
unfolding joined outs
mail_comes = refl

-- What changes nothing gives no NOTIFY
abbrev events_same_mail : List Event
events_same_mail = comes subscribe_1
    ∷ mail Voice 2 8 0 2
    ∷ mail Voice 2 8 0 2
    ∷ mail TextMessages 0 0 0 0
    ∷ mail_for (codes "bob") Voice 1 0 0 0 ∷ []

same_mail : outs start events_same_mail ≡
    Answered (codes "SIP/2.0 200 OK" ∷ (codes "To: <sip:alice@127.0.0.1>;tag=" ++ tag_1) ∷ codes "Expires: 3600" ∷ [])
    ∷ Noticed 1 (codes "active;expires=3600") none
    ∷ Noticed 2 (codes "active;expires=3600") (lines (codes "Messages-Waiting: yes" ∷ codes "Voice-Message: 2/8 (0/2)" ∷ []))
    ∷ Noticed 3 (codes "active;expires=3600") (lines (codes "Messages-Waiting: yes" ∷ codes "Voice-Message: 2/8 (0/2)" ∷ codes "Text-Message: 0/0 (0/0)" ∷ []))
    ∷ []
unfolding joined outs
same_mail = refl

-- The time granted is over
abbrev events_expired : List Event
events_expired = comes (for_time 60 subscribe_1)
    ∷ reply 200 1
    ∷ Ticks 59
    ∷ Ticks 60
    ∷ voice 1 ∷ []

expired : outs start events_expired ≡
    Answered (codes "SIP/2.0 200 OK" ∷ (codes "To: <sip:alice@127.0.0.1>;tag=" ++ tag_1) ∷ codes "Expires: 60" ∷ [])
    ∷ Noticed 1 (codes "active;expires=60") none
    ∷ Noticed 2 (codes "terminated;reason=timeout") none
    ∷ []
unfolding joined outs
expired = refl

-- A Tick above the latest moment changes nothing
abbrev events_tick_too_late : List Event
events_tick_too_late = comes subscribe_1
    ∷ reply 200 1
    ∷ Ticks 9223372036854775808
    ∷ voice 1 ∷ []

tick_too_late : outs start events_tick_too_late ≡
    Answered (codes "SIP/2.0 200 OK" ∷ (codes "To: <sip:alice@127.0.0.1>;tag=" ++ tag_1) ∷ codes "Expires: 3600" ∷ [])
    ∷ Noticed 1 (codes "active;expires=3600") none
    ∷ Noticed 2 (codes "active;expires=3600") (lines (codes "Messages-Waiting: yes" ∷ codes "Voice-Message: 1/0 (0/0)" ∷ []))
    ∷ []
unfolding joined outs
tick_too_late = refl

-- The time that is left
abbrev events_time_left : List Event
events_time_left = comes subscribe_1
    ∷ reply 200 1
    ∷ Ticks 100
    ∷ voice 1 ∷ []

time_left : outs start events_time_left ≡
    Answered (codes "SIP/2.0 200 OK" ∷ (codes "To: <sip:alice@127.0.0.1>;tag=" ++ tag_1) ∷ codes "Expires: 3600" ∷ [])
    ∷ Noticed 1 (codes "active;expires=3600") none
    ∷ Noticed 2 (codes "active;expires=3500") (lines (codes "Messages-Waiting: yes" ∷ codes "Voice-Message: 1/0 (0/0)" ∷ []))
    ∷ []
unfolding joined outs
time_left = refl

-- A retransmission is answered from the ring
abbrev events_repeated : List Event
events_repeated = comes subscribe_1
    ∷ comes subscribe_1 ∷ []

repeated : outs start events_repeated ≡
    Answered (codes "SIP/2.0 200 OK" ∷ (codes "To: <sip:alice@127.0.0.1>;tag=" ++ tag_1) ∷ codes "Expires: 3600" ∷ [])
    ∷ Noticed 1 (codes "active;expires=3600") none
    ∷ Answered (codes "SIP/2.0 200 OK" ∷ (codes "To: <sip:alice@127.0.0.1>;tag=" ++ tag_1) ∷ codes "Expires: 3600" ∷ [])
    ∷ []
unfolding joined outs
repeated = refl

-- Requests in a dialog, each by its CSeq
abbrev events_in_dialog_all : List Event
events_in_dialog_all = comes (for_event (codes "message-summary") (Some (codes "A")) subscribe_1)
    ∷ comes (a_dialog (codes "z9hG4bKa2") tag_1 1)
    ∷ comes (for_event (codes "message-summary") (Some (codes "a")) (a_dialog (codes "z9hG4bKa3") tag_1 2))
    ∷ comes (a_dialog (codes "z9hG4bKa4") tag_1 2)
    ∷ comes (a_dialog (codes "z9hG4bKa5") (codes "w0-9-0000000000000000") 3)
    ∷ comes (for_time 0 (a_dialog (codes "z9hG4bKa6") tag_1 3))
    ∷ comes (a_dialog (codes "z9hG4bKa7") tag_1 4) ∷ []

in_dialog_all : outs start events_in_dialog_all ≡
    Answered (codes "SIP/2.0 200 OK" ∷ (codes "To: <sip:alice@127.0.0.1>;tag=" ++ tag_1) ∷ codes "Expires: 3600" ∷ [])
    ∷ Noticed 1 (codes "active;expires=3600") none
    ∷ Answered (codes "SIP/2.0 500 Server Internal Error" ∷ (codes "To: <sip:alice@127.0.0.1>;tag=" ++ tag_1) ∷ [])
    ∷ Answered (codes "SIP/2.0 481 Call/Transaction Does Not Exist" ∷ (codes "To: <sip:alice@127.0.0.1>;tag=" ++ tag_1) ∷ [])
    ∷ Answered (codes "SIP/2.0 500 Server Internal Error" ∷ (codes "To: <sip:alice@127.0.0.1>;tag=" ++ tag_1) ∷ [])
    ∷ Answered (codes "SIP/2.0 481 Call/Transaction Does Not Exist" ∷ (codes "To: <sip:alice@127.0.0.1>;tag=" ++ codes "w0-9-0000000000000000") ∷ [])
    ∷ Answered (codes "SIP/2.0 200 OK" ∷ (codes "To: <sip:alice@127.0.0.1>;tag=" ++ tag_1) ∷ codes "Expires: 0" ∷ [])
    ∷ Noticed 2 (codes "terminated;reason=timeout") none
    ∷ Answered (codes "SIP/2.0 481 Call/Transaction Does Not Exist" ∷ (codes "To: <sip:alice@127.0.0.1>;tag=" ++ tag_1) ∷ [])
    ∷ []
unfolding joined outs
in_dialog_all = refl

-- A 481 to a NOTIFY (RFC 6665 section 4.2.2)
abbrev events_notify_refused : List Event
events_notify_refused = comes subscribe_1
    ∷ voice 1
    ∷ reply 481 2
    ∷ voice 2 ∷ []

notify_refused : outs start events_notify_refused ≡
    Answered (codes "SIP/2.0 200 OK" ∷ (codes "To: <sip:alice@127.0.0.1>;tag=" ++ tag_1) ∷ codes "Expires: 3600" ∷ [])
    ∷ Noticed 1 (codes "active;expires=3600") none
    ∷ Noticed 2 (codes "active;expires=3600") (lines (codes "Messages-Waiting: yes" ∷ codes "Voice-Message: 1/0 (0/0)" ∷ []))
    ∷ []
unfolding joined outs
notify_refused = refl

-- Another answer ends nothing
abbrev events_reply_500 : List Event
events_reply_500 = comes subscribe_1
    ∷ voice 1
    ∷ reply 500 2
    ∷ voice 2 ∷ []

reply_500 : outs start events_reply_500 ≡
    Answered (codes "SIP/2.0 200 OK" ∷ (codes "To: <sip:alice@127.0.0.1>;tag=" ++ tag_1) ∷ codes "Expires: 3600" ∷ [])
    ∷ Noticed 1 (codes "active;expires=3600") none
    ∷ Noticed 2 (codes "active;expires=3600") (lines (codes "Messages-Waiting: yes" ∷ codes "Voice-Message: 1/0 (0/0)" ∷ []))
    ∷ Noticed 3 (codes "active;expires=3600") (lines (codes "Messages-Waiting: yes" ∷ codes "Voice-Message: 2/0 (0/0)" ∷ []))
    ∷ []
unfolding joined outs
reply_500 = refl

-- Nor does a 481 to a NOTIFY that was never sent
abbrev events_reply_ahead : List Event
events_reply_ahead = comes subscribe_1
    ∷ voice 1
    ∷ reply 481 3
    ∷ voice 2 ∷ []

reply_ahead : outs start events_reply_ahead ≡
    Answered (codes "SIP/2.0 200 OK" ∷ (codes "To: <sip:alice@127.0.0.1>;tag=" ++ tag_1) ∷ codes "Expires: 3600" ∷ [])
    ∷ Noticed 1 (codes "active;expires=3600") none
    ∷ Noticed 2 (codes "active;expires=3600") (lines (codes "Messages-Waiting: yes" ∷ codes "Voice-Message: 1/0 (0/0)" ∷ []))
    ∷ Noticed 3 (codes "active;expires=3600") (lines (codes "Messages-Waiting: yes" ∷ codes "Voice-Message: 2/0 (0/0)" ∷ []))
    ∷ []
unfolding joined outs
reply_ahead = refl

-- A REFER (RFC 3515) to its end
abbrev events_transferred : List Event
events_transferred = comes refer_1
    ∷ progress 180 (codes "Ringing")
    ∷ progress 200 (codes "OK")
    ∷ progress 486 (codes "Busy Here") ∷ []

transferred : outs start events_transferred ≡
    Answered (codes "SIP/2.0 202 Accepted" ∷ (codes "To: <sip:bob@127.0.0.1>;tag=" ++ tag_1) ∷ [])
    ∷ Noticed 1 (codes "active;expires=180") (lines (codes "SIP/2.0 100 Trying" ∷ []))
    ∷ Started tag_1 (codes "sip:carol@127.0.0.1")
    ∷ Noticed 2 (codes "active;expires=180") (lines (codes "SIP/2.0 180 Ringing" ∷ []))
    ∷ Noticed 3 (codes "terminated;reason=noresource") (lines (codes "SIP/2.0 200 OK" ∷ []))
    ∷ []
unfolding joined outs
transferred = refl

-- A 481 to the NOTIFY of a transfer ends it
abbrev events_transfer_refused : List Event
events_transfer_refused = comes refer_1
    ∷ reply_from tag_1 (codes "c7") 481 1
    ∷ progress 180 (codes "Ringing") ∷ []

transfer_refused : outs start events_transfer_refused ≡
    Answered (codes "SIP/2.0 202 Accepted" ∷ (codes "To: <sip:bob@127.0.0.1>;tag=" ++ tag_1) ∷ [])
    ∷ Noticed 1 (codes "active;expires=180") (lines (codes "SIP/2.0 100 Trying" ∷ []))
    ∷ Started tag_1 (codes "sip:carol@127.0.0.1")
    ∷ []
unfolding joined outs
transfer_refused = refl

-- The same status twice gives one NOTIFY
abbrev events_same_progress : List Event
events_same_progress = comes refer_1
    ∷ progress 100 (codes "Trying")
    ∷ progress 180 (codes "Ringing")
    ∷ progress 180 (codes "Ringing") ∷ []

same_progress : outs start events_same_progress ≡
    Answered (codes "SIP/2.0 202 Accepted" ∷ (codes "To: <sip:bob@127.0.0.1>;tag=" ++ tag_1) ∷ [])
    ∷ Noticed 1 (codes "active;expires=180") (lines (codes "SIP/2.0 100 Trying" ∷ []))
    ∷ Started tag_1 (codes "sip:carol@127.0.0.1")
    ∷ Noticed 2 (codes "active;expires=180") (lines (codes "SIP/2.0 180 Ringing" ∷ []))
    ∷ []
unfolding joined outs
same_progress = refl

-- The Expires of a REFER is not looked at
abbrev events_refer_expires : List Event
events_refer_expires = comes (for_time 0 refer_1)
    ∷ comes (record (of_call (codes "c8") (refer (codes "z9hG4bKr2"))) { expires = Bad }) ∷ []

refer_expires : outs start events_refer_expires ≡
    Answered (codes "SIP/2.0 202 Accepted" ∷ (codes "To: <sip:bob@127.0.0.1>;tag=" ++ tag_1) ∷ [])
    ∷ Noticed 1 (codes "active;expires=180") (lines (codes "SIP/2.0 100 Trying" ∷ []))
    ∷ Started tag_1 (codes "sip:carol@127.0.0.1")
    ∷ Answered (codes "SIP/2.0 202 Accepted" ∷ (codes "To: <sip:bob@127.0.0.1>;tag=" ++ tag_2) ∷ [])
    ∷ Noticed 1 (codes "active;expires=180") (lines (codes "SIP/2.0 100 Trying" ∷ []))
    ∷ Started tag_2 (codes "sip:carol@127.0.0.1")
    ∷ []
unfolding joined outs
refer_expires = refl

-- A REFER with no Refer-To, or with two
abbrev events_no_refer_to : List Event
events_no_refer_to = comes (record refer_1 { refer_to = Absent })
    ∷ comes (record (refer (codes "z9hG4bKr2")) { refer_to = Bad }) ∷ []

no_refer_to : outs start events_no_refer_to ≡
    Answered (codes "SIP/2.0 400 Bad Request" ∷ codes "To: <sip:bob@127.0.0.1>;tag=w0-0" ∷ [])
    ∷ Answered (codes "SIP/2.0 400 Bad Request" ∷ codes "To: <sip:bob@127.0.0.1>;tag=w0-0" ∷ [])
    ∷ []
unfolding joined outs
no_refer_to = refl

-- A SUBSCRIBE to `refer`, and to an unknown package
abbrev events_wrong_events : List Event
events_wrong_events = comes (for_event (codes "refer") None subscribe_1)
    ∷ comes (for_event (codes "presence") None subscribe_2) ∷ []

wrong_events : outs start events_wrong_events ≡
    Answered (codes "SIP/2.0 403 Forbidden" ∷ codes "To: <sip:alice@127.0.0.1>;tag=w0-0" ∷ [])
    ∷ Answered (codes "SIP/2.0 489 Bad Event" ∷ codes "To: <sip:alice@127.0.0.1>;tag=w0-0" ∷ codes "Allow-Events: message-summary, refer" ∷ [])
    ∷ []
unfolding joined outs
wrong_events = refl

-- The last number that a dialog may use
abbrev events_last_number : List Event
events_last_number = comes subscribe_1
    ∷ voice 1
    ∷ voice 2
    ∷ voice 3 ∷ []

last_number : outs (start_with (record usual { max_cseq = 3 })) events_last_number ≡
    Answered (codes "SIP/2.0 200 OK" ∷ (codes "To: <sip:alice@127.0.0.1>;tag=" ++ tag_1) ∷ codes "Expires: 3600" ∷ [])
    ∷ Noticed 1 (codes "active;expires=3600") none
    ∷ Noticed 2 (codes "active;expires=3600") (lines (codes "Messages-Waiting: yes" ∷ codes "Voice-Message: 1/0 (0/0)" ∷ []))
    ∷ Noticed 3 (codes "terminated;reason=deactivated") (lines (codes "Messages-Waiting: yes" ∷ codes "Voice-Message: 2/0 (0/0)" ∷ []))
    ∷ []
unfolding joined outs
last_number = refl

-- Requests that no state can help, in one order
abbrev events_wrong_requests : List Event
events_wrong_requests = comes (with_method (codes "OPTIONS") subscribe_1)
    ∷ comes (to_uri (codes "sips:alice@127.0.0.1") subscribe_2)
    ∷ comes (record subscribe_3 { require = codes "foo" ∷ codes "bar" ∷ [] })
    ∷ comes (with_method (codes "ACK") (subscribe (codes "z9hG4bKa4"))) ∷ []

wrong_requests : outs start events_wrong_requests ≡
    Answered (codes "SIP/2.0 405 Method Not Allowed" ∷ codes "To: <sip:alice@127.0.0.1>;tag=w0-0" ∷ codes "Allow: SUBSCRIBE, REFER" ∷ [])
    ∷ Answered (codes "SIP/2.0 416 Unsupported URI Scheme" ∷ codes "To: <sip:alice@127.0.0.1>;tag=w0-0" ∷ [])
    ∷ Answered (codes "SIP/2.0 420 Bad Extension" ∷ codes "To: <sip:alice@127.0.0.1>;tag=w0-0" ∷ codes "Unsupported: foo, bar" ∷ [])
    ∷ []
unfolding joined outs
wrong_requests = refl

-- A full table takes a fetch alone
abbrev events_table_full : List Event
events_table_full = comes subscribe_1
    ∷ comes (of_call (codes "c2") subscribe_2)
    ∷ comes (for_time 0 (of_call (codes "c2") subscribe_3)) ∷ []

table_full : outs (start_with (record usual { table = 1 })) events_table_full ≡
    Answered (codes "SIP/2.0 200 OK" ∷ (codes "To: <sip:alice@127.0.0.1>;tag=" ++ tag_1) ∷ codes "Expires: 3600" ∷ [])
    ∷ Noticed 1 (codes "active;expires=3600") none
    ∷ Answered (codes "SIP/2.0 503 Service Unavailable" ∷ codes "To: <sip:alice@127.0.0.1>;tag=w0-0" ∷ [])
    ∷ Answered (codes "SIP/2.0 200 OK" ∷ (codes "To: <sip:alice@127.0.0.1>;tag=" ++ tag_2) ∷ codes "Expires: 0" ∷ [])
    ∷ Noticed 1 (codes "terminated;reason=timeout") none
    ∷ []
unfolding joined outs
table_full = refl

-- No serial is left
abbrev events_serials_used_up : List Event
events_serials_used_up = comes subscribe_1
    ∷ comes (for_time 0 (of_call (codes "c2") subscribe_3)) ∷ []

serials_used_up : outs (start_with (record usual { serials = 1 })) events_serials_used_up ≡
    Answered (codes "SIP/2.0 200 OK" ∷ (codes "To: <sip:alice@127.0.0.1>;tag=" ++ tag_1) ∷ codes "Expires: 3600" ∷ [])
    ∷ Noticed 1 (codes "active;expires=3600") none
    ∷ Answered (codes "SIP/2.0 503 Service Unavailable" ∷ codes "To: <sip:alice@127.0.0.1>;tag=w0-0" ∷ [])
    ∷ []
unfolding joined outs
serials_used_up = refl

-- What Accept covers, and a mailbox that is not held
abbrev events_not_acceptable : List Event
events_not_acceptable = comes (record subscribe_1 { accept = Value (record { main = codes "text"; sub = codes "plain" } ∷ []) })
    ∷ comes (to_uri (codes "sip:zoe@127.0.0.1") subscribe_2)
    ∷ comes (record subscribe_3 { accept = Value (record { main = codes "application"; sub = codes "*" } ∷ []) }) ∷ []

not_acceptable : outs start events_not_acceptable ≡
    Answered (codes "SIP/2.0 406 Not Acceptable" ∷ codes "To: <sip:alice@127.0.0.1>;tag=w0-0" ∷ [])
    ∷ Answered (codes "SIP/2.0 404 Not Found" ∷ codes "To: <sip:alice@127.0.0.1>;tag=w0-0" ∷ [])
    ∷ Answered (codes "SIP/2.0 200 OK" ∷ (codes "To: <sip:alice@127.0.0.1>;tag=" ++ tag_1) ∷ codes "Expires: 3600" ∷ [])
    ∷ Noticed 1 (codes "active;expires=3600") none
    ∷ []
unfolding joined outs
not_acceptable = refl

-- The ring keeps one answer
abbrev events_ring_of_one : List Event
events_ring_of_one = comes subscribe_1
    ∷ comes (with_method (codes "OPTIONS") subscribe_2)
    ∷ comes subscribe_1 ∷ []

ring_of_one : outs (start_with (record usual { kept = 1 })) events_ring_of_one ≡
    Answered (codes "SIP/2.0 200 OK" ∷ (codes "To: <sip:alice@127.0.0.1>;tag=" ++ tag_1) ∷ codes "Expires: 3600" ∷ [])
    ∷ Noticed 1 (codes "active;expires=3600") none
    ∷ Answered (codes "SIP/2.0 405 Method Not Allowed" ∷ codes "To: <sip:alice@127.0.0.1>;tag=w0-0" ∷ codes "Allow: SUBSCRIBE, REFER" ∷ [])
    ∷ Answered (codes "SIP/2.0 200 OK" ∷ (codes "To: <sip:alice@127.0.0.1>;tag=" ++ tag_2) ∷ codes "Expires: 3600" ∷ [])
    ∷ Noticed 1 (codes "active;expires=3600") none
    ∷ []
unfolding joined outs
ring_of_one = refl

-- A refresh, and one that asks too little
abbrev events_refreshed : List Event
events_refreshed = comes subscribe_1
    ∷ comes (for_time 59 (within tag_1 2 subscribe_2))
    ∷ comes (for_time 60 (within tag_1 2 subscribe_3))
    ∷ Ticks 10
    ∷ comes (within tag_1 3 (subscribe (codes "z9hG4bKa4"))) ∷ []

refreshed : outs start events_refreshed ≡
    Answered (codes "SIP/2.0 200 OK" ∷ (codes "To: <sip:alice@127.0.0.1>;tag=" ++ tag_1) ∷ codes "Expires: 3600" ∷ [])
    ∷ Noticed 1 (codes "active;expires=3600") none
    ∷ Answered (codes "SIP/2.0 423 Interval Too Brief" ∷ (codes "To: <sip:alice@127.0.0.1>;tag=" ++ tag_1) ∷ codes "Min-Expires: 60" ∷ [])
    ∷ Answered (codes "SIP/2.0 500 Server Internal Error" ∷ (codes "To: <sip:alice@127.0.0.1>;tag=" ++ tag_1) ∷ [])
    ∷ Answered (codes "SIP/2.0 200 OK" ∷ (codes "To: <sip:alice@127.0.0.1>;tag=" ++ tag_1) ∷ codes "Expires: 3600" ∷ [])
    ∷ Noticed 2 (codes "active;expires=3600") none
    ∷ []
unfolding joined outs
refreshed = refl

-- A refresh with the last number
abbrev events_refreshed_to_the_last : List Event
events_refreshed_to_the_last = comes subscribe_1
    ∷ comes (within tag_1 2 subscribe_2)
    ∷ comes (within tag_1 3 subscribe_3) ∷ []

refreshed_to_the_last : outs (start_with (record usual { max_cseq = 2 })) events_refreshed_to_the_last ≡
    Answered (codes "SIP/2.0 200 OK" ∷ (codes "To: <sip:alice@127.0.0.1>;tag=" ++ tag_1) ∷ codes "Expires: 3600" ∷ [])
    ∷ Noticed 1 (codes "active;expires=3600") none
    ∷ Answered (codes "SIP/2.0 200 OK" ∷ (codes "To: <sip:alice@127.0.0.1>;tag=" ++ tag_1) ∷ codes "Expires: 3600" ∷ [])
    ∷ Noticed 2 (codes "terminated;reason=deactivated") none
    ∷ Answered (codes "SIP/2.0 481 Call/Transaction Does Not Exist" ∷ (codes "To: <sip:alice@127.0.0.1>;tag=" ++ tag_1) ∷ [])
    ∷ []
unfolding joined outs
refreshed_to_the_last = refl

-- Where one NOTIFY is all, a transfer is forgotten at once
abbrev events_born_last : List Event
events_born_last = comes refer_1
    ∷ progress 180 (codes "Ringing") ∷ []

born_last : outs (start_with (record usual { max_cseq = 1 })) events_born_last ≡
    Answered (codes "SIP/2.0 202 Accepted" ∷ (codes "To: <sip:bob@127.0.0.1>;tag=" ++ tag_1) ∷ [])
    ∷ Noticed 1 (codes "terminated;reason=deactivated") (lines (codes "SIP/2.0 100 Trying" ∷ []))
    ∷ Started tag_1 (codes "sip:carol@127.0.0.1")
    ∷ []
unfolding joined outs
born_last = refl

-- A REFER in the dialog of a SUBSCRIBE
abbrev events_refer_within : List Event
events_refer_within = comes subscribe_1
    ∷ comes (of_call (codes "c1") (within tag_1 93 refer_1))
    ∷ comes (within tag_1 2 subscribe_2) ∷ []

refer_within : outs start events_refer_within ≡
    Answered (codes "SIP/2.0 200 OK" ∷ (codes "To: <sip:alice@127.0.0.1>;tag=" ++ tag_1) ∷ codes "Expires: 3600" ∷ [])
    ∷ Noticed 1 (codes "active;expires=3600") none
    ∷ Answered (codes "SIP/2.0 403 Forbidden" ∷ (codes "To: <sip:bob@127.0.0.1>;tag=" ++ tag_1) ∷ [])
    ∷ Answered (codes "SIP/2.0 500 Server Internal Error" ∷ (codes "To: <sip:alice@127.0.0.1>;tag=" ++ tag_1) ∷ [])
    ∷ []
unfolding joined outs
refer_within = refl

-- A package of another kind
abbrev events_third_box : List Event
events_third_box = comes (for_event (codes "presence") None subscribe_1)
    ∷ comes (for_event (codes "dialog") None subscribe_2)
    ∷ voice 1 ∷ []

third_box : outs (record start { boxes = mail_box ∷ refer_box ∷ presence_box ∷ [] }) events_third_box ≡
    Answered (codes "SIP/2.0 200 OK" ∷ (codes "To: <sip:alice@127.0.0.1>;tag=" ++ tag_1) ∷ codes "Expires: 3600" ∷ [])
    ∷ Noticed 1 (codes "active;expires=3600") none
    ∷ Answered (codes "SIP/2.0 489 Bad Event" ∷ codes "To: <sip:alice@127.0.0.1>;tag=w0-0" ∷ codes "Allow-Events: message-summary, refer, presence" ∷ [])
    ∷ []
unfolding joined outs
third_box = refl

-- Two subscriptions that end at one Tick, by rising serial
abbrev events_two_end : List Event
events_two_end = comes (for_time 120 subscribe_1)
    ∷ comes (for_time 60 (of_call (codes "c2") subscribe_2))
    ∷ reply 200 1
    ∷ reply_from tag_2 (codes "c2") 200 1
    ∷ voice 1
    ∷ reply 200 2
    ∷ reply_from tag_2 (codes "c2") 200 2
    ∷ Ticks 120 ∷ []

two_end : outs start events_two_end ≡
    Answered (codes "SIP/2.0 200 OK" ∷ (codes "To: <sip:alice@127.0.0.1>;tag=" ++ tag_1) ∷ codes "Expires: 120" ∷ [])
    ∷ Noticed 1 (codes "active;expires=120") none
    ∷ Answered (codes "SIP/2.0 200 OK" ∷ (codes "To: <sip:alice@127.0.0.1>;tag=" ++ tag_2) ∷ codes "Expires: 60" ∷ [])
    ∷ Noticed 1 (codes "active;expires=60") none
    ∷ Noticed 2 (codes "active;expires=120") (lines (codes "Messages-Waiting: yes" ∷ codes "Voice-Message: 1/0 (0/0)" ∷ []))
    ∷ Noticed 2 (codes "active;expires=60") (lines (codes "Messages-Waiting: yes" ∷ codes "Voice-Message: 1/0 (0/0)" ∷ []))
    ∷ Noticed 3 (codes "terminated;reason=timeout") (lines (codes "Messages-Waiting: yes" ∷ codes "Voice-Message: 1/0 (0/0)" ∷ []))
    ∷ Noticed 3 (codes "terminated;reason=timeout") (lines (codes "Messages-Waiting: yes" ∷ codes "Voice-Message: 1/0 (0/0)" ∷ []))
    ∷ []
unfolding joined outs
two_end = refl

-- ---- a transfer is held as long as its subscription lives

transfer_held : transfer_after start events_same_progress ≡ Some (OfStatus 180 (codes "Ringing"))
unfolding transfer_after
transfer_held = refl

transfer_forgotten_1 : transfer_after start events_transferred ≡ None
unfolding transfer_after
transfer_forgotten_1 = refl

transfer_forgotten_2 : transfer_after start events_transfer_refused ≡ None
unfolding transfer_after
transfer_forgotten_2 = refl

transfer_forgotten_3 : transfer_after (start_with (record usual { max_cseq = 1 })) events_born_last ≡ None
unfolding transfer_after
transfer_forgotten_3 = refl

transfer_forgotten_4 : transfer_after start (comes refer_1 ∷ reply_from tag_1 (codes "c7") 200 1 ∷ Ticks 180 ∷ []) ≡ None
unfolding transfer_after
transfer_forgotten_4 = refl

-- A refresh without an Expires gets the time of a SUBSCRIBE that doesn't say
abbrev events_refreshed_at_once : List Event
events_refreshed_at_once = comes subscribe_1 ∷ comes (within tag_1 2 subscribe_2) ∷ []

refreshed_at_once : outs start events_refreshed_at_once ≡
    Answered (codes "SIP/2.0 200 OK" ∷ (codes "To: <sip:alice@127.0.0.1>;tag=" ++ tag_1) ∷ codes "Expires: 3600" ∷ [])
    ∷ Noticed 1 (codes "active;expires=3600") none
    ∷ Answered (codes "SIP/2.0 200 OK" ∷ (codes "To: <sip:alice@127.0.0.1>;tag=" ++ tag_1) ∷ codes "Expires: 3600" ∷ [])
    ∷ Noticed 2 (codes "active;expires=3600") none
    ∷ []
unfolding joined outs
refreshed_at_once = refl

-- After a 481 to its NOTIFY the dialog is gone
abbrev events_refreshed_too_late : List Event
events_refreshed_too_late = comes subscribe_1 ∷ reply 481 1 ∷ comes (within tag_1 2 subscribe_2) ∷ []

refreshed_too_late : outs start events_refreshed_too_late ≡
    Answered (codes "SIP/2.0 200 OK" ∷ (codes "To: <sip:alice@127.0.0.1>;tag=" ++ tag_1) ∷ codes "Expires: 3600" ∷ [])
    ∷ Noticed 1 (codes "active;expires=3600") none
    ∷ Answered (codes "SIP/2.0 481 Call/Transaction Does Not Exist" ∷ (codes "To: <sip:alice@127.0.0.1>;tag=" ++ tag_1) ∷ [])
    ∷ []
unfolding joined outs
refreshed_too_late = refl

-- The planned stop ends each subscription with a last NOTIFY, by rising serial. Nothing is left to be told
abbrev events_shut : List Event
events_shut = comes subscribe_1
    ∷ comes (of_call (codes "c2") subscribe_2)
    ∷ reply 481 1
    ∷ comes (of_call (codes "c3") subscribe_3)
    ∷ Shut
    ∷ voice 1
    ∷ Ticks 3600
    ∷ Shut ∷ []

shut_down : outs start events_shut ≡
    Answered (codes "SIP/2.0 200 OK" ∷ (codes "To: <sip:alice@127.0.0.1>;tag=" ++ tag_1) ∷ codes "Expires: 3600" ∷ [])
    ∷ Noticed 1 (codes "active;expires=3600") none
    ∷ Answered (codes "SIP/2.0 200 OK" ∷ (codes "To: <sip:alice@127.0.0.1>;tag=" ++ tag_2) ∷ codes "Expires: 3600" ∷ [])
    ∷ Noticed 1 (codes "active;expires=3600") none
    ∷ Answered (codes "SIP/2.0 200 OK" ∷ (codes "To: <sip:alice@127.0.0.1>;tag=" ++ tag_3) ∷ codes "Expires: 3600" ∷ [])
    ∷ Noticed 1 (codes "active;expires=3600") none
    ∷ Noticed 2 (codes "terminated;reason=deactivated") none
    ∷ Noticed 2 (codes "terminated;reason=deactivated") none
    ∷ []
unfolding joined outs
shut_down = refl

-- It doesn't move the time
abbrev events_shut_early : List Event
events_shut_early = Shut ∷ comes subscribe_1 ∷ reply 200 1 ∷ Ticks 3599 ∷ voice 1 ∷ []

shut_early : outs start events_shut_early ≡
    Answered (codes "SIP/2.0 200 OK" ∷ (codes "To: <sip:alice@127.0.0.1>;tag=" ++ tag_1) ∷ codes "Expires: 3600" ∷ [])
    ∷ Noticed 1 (codes "active;expires=3600") none
    ∷ Noticed 2 (codes "active;expires=1") (lines (codes "Messages-Waiting: yes" ∷ codes "Voice-Message: 1/0 (0/0)" ∷ []))
    ∷ []
unfolding joined outs
shut_early = refl

transfer_forgotten_5 : transfer_after start (comes refer_1 ∷ Shut ∷ []) ≡ None
unfolding transfer_after
transfer_forgotten_5 = refl

-- ---- unanswered NOTIFYs

-- A NOTIFY may be unanswered for 31 seconds
abbrev events_waiting : List Event
events_waiting = comes subscribe_1
    ∷ Ticks 31
    ∷ voice 1 ∷ []

waiting : outs start events_waiting ≡
    Answered (codes "SIP/2.0 200 OK" ∷ (codes "To: <sip:alice@127.0.0.1>;tag=" ++ tag_1) ∷ codes "Expires: 3600" ∷ [])
    ∷ Noticed 1 (codes "active;expires=3600") none
    ∷ Noticed 2 (codes "active;expires=3569") (lines (codes "Messages-Waiting: yes" ∷ codes "Voice-Message: 1/0 (0/0)" ∷ []))
    ∷ []
unfolding joined outs
waiting = refl

-- After 32 seconds its subscription is gone, untold
abbrev events_lost : List Event
events_lost = comes subscribe_1
    ∷ Ticks 32
    ∷ voice 1 ∷ []

lost : outs start events_lost ≡
    Answered (codes "SIP/2.0 200 OK" ∷ (codes "To: <sip:alice@127.0.0.1>;tag=" ++ tag_1) ∷ codes "Expires: 3600" ∷ [])
    ∷ Noticed 1 (codes "active;expires=3600") none
    ∷ []
unfolding joined outs
lost = refl

-- A final answer closes it
abbrev events_answered_in_time : List Event
events_answered_in_time = comes subscribe_1
    ∷ reply 200 1
    ∷ Ticks 32
    ∷ voice 1 ∷ []

answered_in_time : outs start events_answered_in_time ≡
    Answered (codes "SIP/2.0 200 OK" ∷ (codes "To: <sip:alice@127.0.0.1>;tag=" ++ tag_1) ∷ codes "Expires: 3600" ∷ [])
    ∷ Noticed 1 (codes "active;expires=3600") none
    ∷ Noticed 2 (codes "active;expires=3568") (lines (codes "Messages-Waiting: yes" ∷ codes "Voice-Message: 1/0 (0/0)" ∷ []))
    ∷ []
unfolding joined outs
answered_in_time = refl

-- So does one that refuses it, but for a 481
abbrev events_failed_in_time : List Event
events_failed_in_time = comes subscribe_1
    ∷ reply 500 1
    ∷ Ticks 32
    ∷ voice 1 ∷ []

failed_in_time : outs start events_failed_in_time ≡
    Answered (codes "SIP/2.0 200 OK" ∷ (codes "To: <sip:alice@127.0.0.1>;tag=" ++ tag_1) ∷ codes "Expires: 3600" ∷ [])
    ∷ Noticed 1 (codes "active;expires=3600") none
    ∷ Noticed 2 (codes "active;expires=3568") (lines (codes "Messages-Waiting: yes" ∷ codes "Voice-Message: 1/0 (0/0)" ∷ []))
    ∷ []
unfolding joined outs
failed_in_time = refl

-- A provisional one doesn't
abbrev events_trying : List Event
events_trying = comes subscribe_1
    ∷ reply 100 1
    ∷ Ticks 32
    ∷ voice 1 ∷ []

trying : outs start events_trying ≡
    Answered (codes "SIP/2.0 200 OK" ∷ (codes "To: <sip:alice@127.0.0.1>;tag=" ++ tag_1) ∷ codes "Expires: 3600" ∷ [])
    ∷ Noticed 1 (codes "active;expires=3600") none
    ∷ []
unfolding joined outs
trying = refl

-- Nor does one in another dialog
abbrev events_answered_elsewhere : List Event
events_answered_elsewhere = comes subscribe_1
    ∷ reply_from tag_2 (codes "c1") 200 1
    ∷ reply_from tag_1 (codes "c2") 200 1
    ∷ Ticks 32
    ∷ voice 1 ∷ []

answered_elsewhere : outs start events_answered_elsewhere ≡
    Answered (codes "SIP/2.0 200 OK" ∷ (codes "To: <sip:alice@127.0.0.1>;tag=" ++ tag_1) ∷ codes "Expires: 3600" ∷ [])
    ∷ Noticed 1 (codes "active;expires=3600") none
    ∷ []
unfolding joined outs
answered_elsewhere = refl

-- Each NOTIFY asks for an answer of its own
abbrev events_one_unanswered : List Event
events_one_unanswered = comes subscribe_1
    ∷ voice 1
    ∷ reply 200 2
    ∷ Ticks 32
    ∷ voice 2 ∷ []

one_unanswered : outs start events_one_unanswered ≡
    Answered (codes "SIP/2.0 200 OK" ∷ (codes "To: <sip:alice@127.0.0.1>;tag=" ++ tag_1) ∷ codes "Expires: 3600" ∷ [])
    ∷ Noticed 1 (codes "active;expires=3600") none
    ∷ Noticed 2 (codes "active;expires=3600") (lines (codes "Messages-Waiting: yes" ∷ codes "Voice-Message: 1/0 (0/0)" ∷ []))
    ∷ []
unfolding joined outs
one_unanswered = refl

-- An answer that comes before its NOTIFY is none
abbrev events_answered_too_early : List Event
events_answered_too_early = comes subscribe_1
    ∷ reply 200 1
    ∷ reply 200 2
    ∷ voice 1
    ∷ Ticks 32
    ∷ voice 2 ∷ []

answered_too_early : outs start events_answered_too_early ≡
    Answered (codes "SIP/2.0 200 OK" ∷ (codes "To: <sip:alice@127.0.0.1>;tag=" ++ tag_1) ∷ codes "Expires: 3600" ∷ [])
    ∷ Noticed 1 (codes "active;expires=3600") none
    ∷ Noticed 2 (codes "active;expires=3600") (lines (codes "Messages-Waiting: yes" ∷ codes "Voice-Message: 1/0 (0/0)" ∷ []))
    ∷ []
unfolding joined outs
answered_too_early = refl

-- The 32 seconds begin where the NOTIFY was made
abbrev events_made_later : List Event
events_made_later = comes subscribe_1
    ∷ reply 200 1
    ∷ Ticks 100
    ∷ voice 1
    ∷ Ticks 131
    ∷ voice 2
    ∷ Ticks 132
    ∷ voice 3 ∷ []

made_later : outs start events_made_later ≡
    Answered (codes "SIP/2.0 200 OK" ∷ (codes "To: <sip:alice@127.0.0.1>;tag=" ++ tag_1) ∷ codes "Expires: 3600" ∷ [])
    ∷ Noticed 1 (codes "active;expires=3600") none
    ∷ Noticed 2 (codes "active;expires=3500") (lines (codes "Messages-Waiting: yes" ∷ codes "Voice-Message: 1/0 (0/0)" ∷ []))
    ∷ Noticed 3 (codes "active;expires=3469") (lines (codes "Messages-Waiting: yes" ∷ codes "Voice-Message: 2/0 (0/0)" ∷ []))
    ∷ []
unfolding joined outs
made_later = refl

-- It is looked at before the time that is up
abbrev events_lost_before_due : List Event
events_lost_before_due = comes (for_time 60 subscribe_1)
    ∷ Ticks 60 ∷ []

lost_before_due : outs start events_lost_before_due ≡
    Answered (codes "SIP/2.0 200 OK" ∷ (codes "To: <sip:alice@127.0.0.1>;tag=" ++ tag_1) ∷ codes "Expires: 60" ∷ [])
    ∷ Noticed 1 (codes "active;expires=60") none
    ∷ []
unfolding joined outs
lost_before_due = refl

-- A dialog that was lost is gone
abbrev events_refreshed_after_loss : List Event
events_refreshed_after_loss = comes subscribe_1
    ∷ Ticks 32
    ∷ comes (within tag_1 2 subscribe_2) ∷ []

refreshed_after_loss : outs start events_refreshed_after_loss ≡
    Answered (codes "SIP/2.0 200 OK" ∷ (codes "To: <sip:alice@127.0.0.1>;tag=" ++ tag_1) ∷ codes "Expires: 3600" ∷ [])
    ∷ Noticed 1 (codes "active;expires=3600") none
    ∷ Answered (codes "SIP/2.0 481 Call/Transaction Does Not Exist" ∷ (codes "To: <sip:alice@127.0.0.1>;tag=" ++ tag_1) ∷ [])
    ∷ []
unfolding joined outs
refreshed_after_loss = refl

transfer_forgotten_6 : transfer_after start (comes refer_1 ∷ Ticks 32 ∷ []) ≡ None
unfolding transfer_after
transfer_forgotten_6 = refl

-- ---- a REFER without a subscription

-- It is started and not told of, and takes a serial
abbrev events_unwatched_transfer : List Event
events_unwatched_transfer = comes (unwatched refer_1)
    ∷ progress 200 (codes "OK")
    ∷ comes (unwatched (of_call (codes "c8") (refer (codes "z9hG4bKr2")))) ∷ []

unwatched_transfer : outs start events_unwatched_transfer ≡
    Answered (codes "SIP/2.0 202 Accepted" ∷ (codes "To: <sip:bob@127.0.0.1>;tag=" ++ tag_1) ∷ codes "Refer-Sub: false" ∷ [])
    ∷ Started tag_1 (codes "sip:carol@127.0.0.1")
    ∷ Answered (codes "SIP/2.0 202 Accepted" ∷ (codes "To: <sip:bob@127.0.0.1>;tag=" ++ tag_2) ∷ codes "Refer-Sub: false" ∷ [])
    ∷ Started tag_2 (codes "sip:carol@127.0.0.1")
    ∷ []
unfolding joined outs
unwatched_transfer = refl

-- A Refer-Sub that says neither
abbrev events_bad_refer_sub : List Event
events_bad_refer_sub = comes (record refer_1 { refer_sub = Bad }) ∷ []

bad_refer_sub : outs start events_bad_refer_sub ≡
    Answered (codes "SIP/2.0 400 Bad Request" ∷ codes "To: <sip:bob@127.0.0.1>;tag=w0-0" ∷ [])
    ∷ []
unfolding joined outs
bad_refer_sub = refl

-- It is looked at in a REFER alone
abbrev events_bad_refer_sub_elsewhere : List Event
events_bad_refer_sub_elsewhere = comes (record subscribe_1 { refer_sub = Bad }) ∷ []

bad_refer_sub_elsewhere : outs start events_bad_refer_sub_elsewhere ≡
    Answered (codes "SIP/2.0 200 OK" ∷ (codes "To: <sip:alice@127.0.0.1>;tag=" ++ tag_1) ∷ codes "Expires: 3600" ∷ [])
    ∷ Noticed 1 (codes "active;expires=3600") none
    ∷ []
unfolding joined outs
bad_refer_sub_elsewhere = refl

-- One that asks for the subscription
abbrev events_watched_transfer : List Event
events_watched_transfer = comes (record refer_1 { refer_sub = Value true }) ∷ []

watched_transfer : outs start events_watched_transfer ≡
    Answered (codes "SIP/2.0 202 Accepted" ∷ (codes "To: <sip:bob@127.0.0.1>;tag=" ++ tag_1) ∷ [])
    ∷ Noticed 1 (codes "active;expires=180") (lines (codes "SIP/2.0 100 Trying" ∷ []))
    ∷ Started tag_1 (codes "sip:carol@127.0.0.1")
    ∷ []
unfolding joined outs
watched_transfer = refl

-- It needs no place in the table
abbrev events_unwatched_in_full_table : List Event
events_unwatched_in_full_table = comes subscribe_1
    ∷ comes (unwatched refer_1) ∷ []

unwatched_in_full_table : outs (start_with (record usual { table = 1 })) events_unwatched_in_full_table ≡
    Answered (codes "SIP/2.0 200 OK" ∷ (codes "To: <sip:alice@127.0.0.1>;tag=" ++ tag_1) ∷ codes "Expires: 3600" ∷ [])
    ∷ Noticed 1 (codes "active;expires=3600") none
    ∷ Answered (codes "SIP/2.0 202 Accepted" ∷ (codes "To: <sip:bob@127.0.0.1>;tag=" ++ tag_2) ∷ codes "Refer-Sub: false" ∷ [])
    ∷ Started tag_2 (codes "sip:carol@127.0.0.1")
    ∷ []
unfolding joined outs
unwatched_in_full_table = refl

-- But a serial
abbrev events_unwatched_without_serial : List Event
events_unwatched_without_serial = comes subscribe_1
    ∷ comes (unwatched refer_1) ∷ []

unwatched_without_serial : outs (start_with (record usual { serials = 1 })) events_unwatched_without_serial ≡
    Answered (codes "SIP/2.0 200 OK" ∷ (codes "To: <sip:alice@127.0.0.1>;tag=" ++ tag_1) ∷ codes "Expires: 3600" ∷ [])
    ∷ Noticed 1 (codes "active;expires=3600") none
    ∷ Answered (codes "SIP/2.0 503 Service Unavailable" ∷ codes "To: <sip:bob@127.0.0.1>;tag=w0-0" ∷ [])
    ∷ []
unfolding joined outs
unwatched_without_serial = refl

-- And a package of transfers
abbrev events_unwatched_without_package : List Event
events_unwatched_without_package = comes (unwatched refer_1) ∷ []

unwatched_without_package : outs (record start { boxes = mail_box ∷ [] }) events_unwatched_without_package ≡
    Answered (codes "SIP/2.0 489 Bad Event" ∷ codes "To: <sip:bob@127.0.0.1>;tag=w0-0" ∷ codes "Allow-Events: message-summary" ∷ [])
    ∷ []
unfolding joined outs
unwatched_without_package = refl

-- `norefersub` is understood, and not listed where something else isn't
abbrev events_norefersub_and_more : List Event
events_norefersub_and_more = comes (record refer_1 { require = codes "norefersub" ∷ codes "foo" ∷ [] }) ∷ []

norefersub_and_more : outs start events_norefersub_and_more ≡
    Answered (codes "SIP/2.0 420 Bad Extension" ∷ codes "To: <sip:bob@127.0.0.1>;tag=w0-0" ∷ codes "Unsupported: foo" ∷ [])
    ∷ []
unfolding joined outs
norefersub_and_more = refl

-- Its case is ignored
abbrev events_norefersub : List Event
events_norefersub = comes (record refer_1 { require = codes "NoReferSub" ∷ [] }) ∷ []

norefersub : outs start events_norefersub ≡
    Answered (codes "SIP/2.0 202 Accepted" ∷ (codes "To: <sip:bob@127.0.0.1>;tag=" ++ tag_1) ∷ [])
    ∷ Noticed 1 (codes "active;expires=180") (lines (codes "SIP/2.0 100 Trying" ∷ []))
    ∷ Started tag_1 (codes "sip:carol@127.0.0.1")
    ∷ []
unfolding joined outs
norefersub = refl

transfer_not_begun : transfer_after start (comes (unwatched refer_1) ∷ []) ≡ None
unfolding transfer_after
transfer_not_begun = refl
