-- What contracts see of the borrowed values that are written.
use Rattle.std.specs.Prelude.{map, option_map}
use Rattle.sip_write.specs.declared.answer.Answer.{Answer}
use Rattle.sip_write.specs.declared.notify.NotifyText.{NotifyText}
use Rattle.sip_write.specs.Answer.{AnswerText}
use Rattle.sip_write.specs.Notify as written

abbrev pub answer_view : Answer → AnswerText
answer_view a = record {
  head = a.head.now;
  source = a.source;
  status = a.status;
  tag = option_map (λ t. t.now) a.tag;
  record_routes = a.record_routes.now;
  contact = a.contact;
  expires = a.expires;
  min_expires = a.min_expires;
  allow = option_map (λ names. map (λ n. n.now) names.now) a.allow;
  allow_events = option_map (λ names. map (λ n. n.now) names.now) a.allow_events;
  unsupported = option_map (λ names. map (λ n. n.now) names.now) a.unsupported;
  without_subscription = a.without_subscription;
}

abbrev pub notify_view : NotifyText → written.NotifyText
notify_view n = record {
  target = n.target.now;
  routes = n.routes.now;
  me = n.me;
  local = n.local.now;
  local_tag = n.local_tag.now;
  remote = n.remote.now;
  call_id = n.call_id.now;
  number = n.number;
  event = n.event.now;
  state = n.state.now;
  content_type = n.content_type.now;
  body = n.body.now;
}
