-- Messages and starts for worked runs, and what a run shows of what it sends. The maps of these packages are lists, since a
-- list computes.
use Rattle.notifier_model.specs.Tag
use Rattle.notifier_model.specs.Requests
use Rattle.notifier_model.specs.Answers
use Rattle.notifier_model.specs.Out
use Rattle.notifier_model.specs.Rows
use Rattle.notifier_model.specs.Book
use Rattle.notifier_model.specs.Run
use Rattle.subscription.specs.Table
use Rattle.sip_write.specs.Answer as AnswerLayout
use Rattle.sip_write.specs.Notify as NotifyLayout
use Rattle.sip_write.specs.Via as ViaLayout
use Rattle.event_headers.specs.Written as HeaderTexts
use Rattle.rand_chacha.specs.Block
use Rattle.rand_core.specs.Steps
use Rattle.hex.specs.Hex
use Rattle.std.specs.Fmt
use Rattle.std.specs.Prelude.{ℕ, Bool, false, ◌||◌, List, [], ◌∷◌, ◌++◌, map, if◌then◌else◌, nat_eq, ◌==◌, Some, None, codes, Option, filter, replicate, bytes_eq}
use Rattle.std.specs.List.{starts_with}
use Rattle.sip_text.specs.declared.field.Field.TheVariants.{Absent, Value}
use Rattle.event_headers.specs.Written.{state_text}
use Rattle.sip_text.specs.declared.address.Addr.{Addr}
use Rattle.sip_read.specs.declared.message.Via.{Via}
use Rattle.sip_read.specs.declared.message.Head.{Head}
use Rattle.sip_read.specs.declared.message.Request.{Request}
use Rattle.package.specs.declared.counts.Class.{Class}
use Rattle.package.specs.declared.counts.Class.TheVariants.{Voice}
use Rattle.package.specs.Content.{Content, OfMail, Maps, SeenBy, refer_package}
use Rattle.package.specs.Changes.{unset}
use Rattle.package.specs.Boxes.{content_in}
use Rattle.notifier_model.specs.declared.event.Event.{Event}
use Rattle.notifier_model.specs.declared.event.Event.TheVariants.{Request as Comes, Reply as Replies, Mail as Mails, Progress as Progresses}
use Rattle.notifier_model.specs.declared.event.Out.{Out}
use Rattle.notifier_model.specs.declared.event.Out.TheVariants.{Answer, Notify, Start as Begins}
use Rattle.notifier_model.specs.Limits.{Limits}
use Rattle.notifier_model.specs.Start.{StartBy}
use Rattle.notifier_model.specs.Out.{Send, Answers, Notifies, Starts, out_of}
use Rattle.notifier_model.specs.Run.{run, made}

-- ---- maps that compute

abbrev pub Entries : Type 0
Entries = List (List ℕ × Content)

abbrev pub held : Entries → List ℕ → Option Content
held [] resource = None
held (e ∷ es) resource = if bytes_eq e.0 resource then Some e.1 else held es resource

abbrev pub without_held : Entries → List ℕ → Entries
without_held [] resource = []
without_held (e ∷ es) resource = if bytes_eq e.0 resource then without_held es resource else e ∷ without_held es resource

abbrev pub with_held : Entries → List ℕ → Content → Entries
with_held entries resource content = (resource, content) ∷ without_held entries resource

abbrev pub lists : Maps
lists = record { Map = Entries; held = held; with_held = with_held; without_held = without_held }

abbrev pub Start : Type 0
Start = StartBy lists

abbrev pub Seen : Type 0
Seen = SeenBy lists

abbrev pub Bytes : Type 0
Bytes = List ℕ

-- ---- starts

abbrev pub local_ip : List ℕ
local_ip = 127 ∷ 0 ∷ 0 ∷ 1 ∷ []

abbrev pub port : ℕ → Addr
port n = record { ip = local_ip; port = n }

abbrev pub usual : Limits
usual = record { min_time = 60; max_time = 86400; default_time = 3600; refer_time = 180; max_cseq = 2147483647; table = 1024; serials = 4294967295; kept = 64; inbox = 64; outbox = 64 }

abbrev pub mail_box : Seen
mail_box = record { name = codes "message-summary"; content_type = codes "application/simple-message-summary"; contents = ((codes "alice", OfMail unset) ∷ []) }

abbrev pub refer_box : Seen
refer_box = record { name = codes "refer"; content_type = codes "message/sipfrag;version=2.0"; contents = [] }

abbrev pub presence_box : Seen
presence_box = record { name = codes "presence"; content_type = codes "text/plain"; contents = ((codes "alice", OfMail unset) ∷ []) }

abbrev pub start_with : Limits → Start
start_with limits = record { place = record { limits = limits; seed = replicate 32 0; me = port 5060; stop = false; worker = 0 }; boxes = mail_box ∷ refer_box ∷ [] }

abbrev pub start : Start
start = start_with usual

-- ---- tags

abbrev pub tag_1 : Bytes
tag_1 = codes "w0-1-76b8e0ada0f13d90"

abbrev pub tag_2 : Bytes
tag_2 = codes "w0-2-405d6ae55386bd28"

abbrev pub tag_3 : Bytes
tag_3 = codes "w0-3-bdd219b8a08ded1a"

-- ---- requests

abbrev pub via_of : Bytes → Via
via_of branch = record { sent_by = codes "127.0.0.1:5070"; branch = Some branch; bare_rport = false }

abbrev pub head_of : Bytes → Bytes → Bytes → Bytes → ℕ → Bytes → Head
head_of branch from to call cseq method = record {
  vias = (codes "SIP/2.0/UDP 127.0.0.1:5070;branch=" ++ branch) ∷ [];
  top = via_of branch;
  from = record { text = from ++ codes ";tag=f1"; tag = Some (codes "f1") };
  to = record { text = to; tag = None };
  call_id = call;
  cseq = cseq;
  cseq_method = method;
}

-- a SUBSCRIBE for voice mail, with this branch
abbrev pub subscribe : Bytes → Request
subscribe branch = record {
  method = codes "SUBSCRIBE";
  uri = codes "sip:alice@127.0.0.1";
  head = head_of branch (codes "<sip:alice@127.0.0.1>") (codes "<sip:alice@127.0.0.1>") (codes "c1") 1 (codes "SUBSCRIBE");
  event = Value (record { «package» = codes "message-summary"; id = None });
  expires = Absent;
  accept = Absent;
  contact = Value (codes "sip:alice@127.0.0.1:5070");
  refer_to = Absent;
  refer_sub = Absent;
  require = [];
  record_routes = [];
  body = [];
}

abbrev pub subscribe_1 : Request
subscribe_1 = subscribe (codes "z9hG4bKa1")

-- another with a branch of its own
abbrev pub subscribe_2 : Request
subscribe_2 = subscribe (codes "z9hG4bKa2")

abbrev pub subscribe_3 : Request
subscribe_3 = subscribe (codes "z9hG4bKa3")

abbrev pub refer : Bytes → Request
refer branch = record {
  method = codes "REFER";
  uri = codes "sip:bob@127.0.0.1";
  head = head_of branch (codes "<sip:alice@127.0.0.1>") (codes "<sip:bob@127.0.0.1>") (codes "c7") 93 (codes "REFER");
  event = Absent;
  expires = Absent;
  accept = Absent;
  contact = Value (codes "sip:alice@127.0.0.1:5070");
  refer_to = Value (codes "sip:carol@127.0.0.1");
  refer_sub = Absent;
  require = [];
  record_routes = [];
  body = [];
}

abbrev pub refer_1 : Request
refer_1 = refer (codes "z9hG4bKr1")

-- a REFER without a subscription
abbrev pub unwatched : Request → Request
unwatched r = record r { refer_sub = Value false }

abbrev pub for_time : ℕ → Request → Request
for_time n r = record r { expires = Value n }

abbrev pub for_event : Bytes → Option Bytes → Request → Request
for_event name id r = record r { event = Value (record { «package» = name; id = id }) }

abbrev pub to_uri : Bytes → Request → Request
to_uri uri r = record r { uri = uri }

abbrev pub of_call : Bytes → Request → Request
of_call call r = record r { head = record r.head { call_id = call } }

abbrev pub with_method : Bytes → Request → Request
with_method method r = record r { method = method; head = record r.head { cseq_method = method } }

-- with this To tag and CSeq
abbrev pub within : Bytes → ℕ → Request → Request
within tag cseq r = record r { head = record r.head { to = record { text = r.head.to.text ++ (codes ";tag=" ++ tag); tag = Some tag }; cseq = cseq } }

abbrev pub comes : Request → Event
comes r = Comes (port 5070) r

-- the answer of the peer to a NOTIFY with this number, in this dialog
abbrev pub reply_from : Bytes → Bytes → ℕ → ℕ → Event
reply_from tag call status number = Replies (record {
  status = status;
  reason = [];
  head = record {
    vias = [];
    top = via_of (codes "z9hG4bK-x");
    from = record { text = codes "<sip:alice@127.0.0.1>;tag=" ++ tag; tag = Some tag };
    to = record { text = codes "<sip:alice@127.0.0.1>;tag=f1"; tag = Some (codes "f1") };
    call_id = call;
    cseq = number;
    cseq_method = codes "NOTIFY";
  };
})

abbrev pub reply : ℕ → ℕ → Event
reply status number = reply_from tag_1 (codes "c1") status number

abbrev pub mail_for : Bytes → Class → ℕ → ℕ → ℕ → ℕ → Event
mail_for mailbox class new_count old_count urgent_new urgent_old =
    Mails (record { mailbox = mailbox; class = class; counts = record { new_count = new_count; old_count = old_count; urgent_new = urgent_new; urgent_old = urgent_old } })

abbrev pub mail : Class → ℕ → ℕ → ℕ → ℕ → Event
mail class new_count old_count urgent_new urgent_old = mail_for (codes "alice") class new_count old_count urgent_new urgent_old

abbrev pub voice : ℕ → Event
voice n = mail Voice n 0 0 0

abbrev pub progress : ℕ → Bytes → Event
progress code reason = Progresses (record { tag = tag_1; code = code; reason = reason })

-- ---- what is shown of an out: of an answer its first line and the lines that tell answers apart

pub data Brief : Type 0 where
  Answered : (lines : List Bytes) → Brief
  Noticed : (number : ℕ) (state body : Bytes) → Brief
  Started : (tag refer_to : Bytes) → Brief

-- a character put in front of the first line
abbrev pub onto_first : ℕ → List Bytes → List Bytes
onto_first c [] = (c ∷ []) ∷ []
onto_first c (line ∷ lines) = (c ∷ line) ∷ lines

-- the lines of a text, each of which ends with CR and LF
abbrev pub line_with : ℕ → List Bytes → List Bytes
line_with c lines = if c == 13 then lines else if c == 10 then [] ∷ lines else onto_first c lines

abbrev pub lines_of : Bytes → List Bytes
lines_of [] = []
lines_of (c ∷ more) = line_with c (lines_of more)

abbrev pub is_telling : Bytes → Bool
is_telling line =
    starts_with nat_eq line (codes "SIP/2.0") || (starts_with nat_eq line (codes "To: ") || (starts_with nat_eq line (codes "Expires: ")
    || (starts_with nat_eq line (codes "Min-Expires: ") || (starts_with nat_eq line (codes "Allow") || (starts_with nat_eq line (codes "Unsupported: ") || starts_with nat_eq line (codes "Refer-Sub: "))))))

abbrev pub brief : Send → Brief
brief (Answers to bytes) = Answered (filter is_telling (lines_of bytes))
brief (Notifies to mailbox n) = Noticed n.number (state_text n.state) n.body
brief (Starts tag refer_to) = Started tag refer_to

abbrev pub bytes_of_out : Out → Bytes
bytes_of_out (Answer to bytes) = bytes
bytes_of_out (Notify to number terminated tag note bytes) = bytes
bytes_of_out (Begins tag refer_to) = []

-- what the book makes of these events, in brief and in bytes
unfoldable pub outs : Start → List Event → List Brief
unfolding Tag.local_tag Tag.refusal_tag Requests.key_of_request Requests.is_sip_uri Requests.user_part Requests.event_of Requests.asked Requests.granted Requests.asks_nothing Requests.is_unwatched Requests.birth_of Requests.is_malformed Requests.misfit Requests.misplaced_at Requests.is_full Requests.denial Answers.refusal_text Answers.refusal_answer Answers.renewal_answer Answers.birth_answer Answers.kept_answer Answers.ring_with Out.out_of Out.notifications Rows.notify Rows.stays Rows.goes Rows.wherever Rows.opened Rows.turned Rows.tells Rows.sweep Rows.gone_at Rows.forgetting Rows.only Rows.is_dialog Rows.counted Rows.renewed_sub Rows.renewed Rows.tells_change Rows.tells_watcher Rows.ends Rows.is_overdue Rows.times_out Rows.stops Rows.closed Rows.takes_answer Rows.answered Book.new_usage Book.new_want Book.first_step Book.nothing Book.keeping Book.refused Book.all_rows Book.denied Book.accepted Book.new_row Book.first_word Book.first_boxes Book.first_told Book.first_gone Book.first_turned Book.born Book.unless Book.unless_denied Book.in_dialog Book.outside Book.by_to_tag Book.by_kept Book.verdict Book.served Book.content_changed Book.replied Book.ticked Book.shut Book.step Run.empty Run.run_from Run.made_from Run.run Run.made Table.told Table.accept Table.fetch Table.refresh Table.end Table.changed Table.is_answer_to Table.is_refusal_of Table.refused_by AnswerLayout.answer_lines AnswerLayout.answer_text NotifyLayout.notify_lines NotifyLayout.notify_text ViaLayout.with_character ViaLayout.parts_from ViaLayout.marked_parameter ViaLayout.marked_parts ViaLayout.top_via_text HeaderTexts.comma_joined Block.block_word Block.double_rounds Block.diagonal_round Block.column_round Block.quarter_round Steps.u32_at Hex.encode_with Fmt.digits
outs start es = map brief (made start es)

unfoldable pub texts : Start → List Event → List Bytes
unfolding Tag.local_tag Tag.refusal_tag Requests.key_of_request Requests.is_sip_uri Requests.user_part Requests.event_of Requests.asked Requests.granted Requests.asks_nothing Requests.is_unwatched Requests.birth_of Requests.is_malformed Requests.misfit Requests.misplaced_at Requests.is_full Requests.denial Answers.refusal_text Answers.refusal_answer Answers.renewal_answer Answers.birth_answer Answers.kept_answer Answers.ring_with Out.out_of Out.notifications Rows.notify Rows.stays Rows.goes Rows.wherever Rows.opened Rows.turned Rows.tells Rows.sweep Rows.gone_at Rows.forgetting Rows.only Rows.is_dialog Rows.counted Rows.renewed_sub Rows.renewed Rows.tells_change Rows.tells_watcher Rows.ends Rows.is_overdue Rows.times_out Rows.stops Rows.closed Rows.takes_answer Rows.answered Book.new_usage Book.new_want Book.first_step Book.nothing Book.keeping Book.refused Book.all_rows Book.denied Book.accepted Book.new_row Book.first_word Book.first_boxes Book.first_told Book.first_gone Book.first_turned Book.born Book.unless Book.unless_denied Book.in_dialog Book.outside Book.by_to_tag Book.by_kept Book.verdict Book.served Book.content_changed Book.replied Book.ticked Book.shut Book.step Run.empty Run.run_from Run.made_from Run.run Run.made Table.told Table.accept Table.fetch Table.refresh Table.end Table.changed Table.is_answer_to Table.is_refusal_of Table.refused_by AnswerLayout.answer_lines AnswerLayout.answer_text NotifyLayout.notify_lines NotifyLayout.notify_text ViaLayout.with_character ViaLayout.parts_from ViaLayout.marked_parameter ViaLayout.marked_parts ViaLayout.top_via_text HeaderTexts.comma_joined Block.block_word Block.double_rounds Block.diagonal_round Block.column_round Block.quarter_round Steps.u32_at Hex.encode_with Fmt.digits
texts start es = map (λ s. bytes_of_out (out_of s)) (made start es)

-- what the book holds in the end of the first transfer
unfoldable pub transfer_after : Start → List Event → Option Content
unfolding Tag.local_tag Tag.refusal_tag Requests.key_of_request Requests.is_sip_uri Requests.user_part Requests.event_of Requests.asked Requests.granted Requests.asks_nothing Requests.is_unwatched Requests.birth_of Requests.is_malformed Requests.misfit Requests.misplaced_at Requests.is_full Requests.denial Answers.refusal_text Answers.refusal_answer Answers.renewal_answer Answers.birth_answer Answers.kept_answer Answers.ring_with Out.out_of Out.notifications Rows.notify Rows.stays Rows.goes Rows.wherever Rows.opened Rows.turned Rows.tells Rows.sweep Rows.gone_at Rows.forgetting Rows.only Rows.is_dialog Rows.counted Rows.renewed_sub Rows.renewed Rows.tells_change Rows.tells_watcher Rows.ends Rows.is_overdue Rows.times_out Rows.stops Rows.closed Rows.takes_answer Rows.answered Book.new_usage Book.new_want Book.first_step Book.nothing Book.keeping Book.refused Book.all_rows Book.denied Book.accepted Book.new_row Book.first_word Book.first_boxes Book.first_told Book.first_gone Book.first_turned Book.born Book.unless Book.unless_denied Book.in_dialog Book.outside Book.by_to_tag Book.by_kept Book.verdict Book.served Book.content_changed Book.replied Book.ticked Book.shut Book.step Run.empty Run.run_from Run.made_from Run.run Run.made Table.told Table.accept Table.fetch Table.refresh Table.end Table.changed Table.is_answer_to Table.is_refusal_of Table.refused_by AnswerLayout.answer_lines AnswerLayout.answer_text NotifyLayout.notify_lines NotifyLayout.notify_text ViaLayout.with_character ViaLayout.parts_from ViaLayout.marked_parameter ViaLayout.marked_parts ViaLayout.top_via_text HeaderTexts.comma_joined Block.block_word Block.double_rounds Block.diagonal_round Block.column_round Block.quarter_round Steps.u32_at Hex.encode_with Fmt.digits
transfer_after start es = content_in (run start es).boxes refer_package tag_1
