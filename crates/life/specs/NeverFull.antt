-- That a full table keeps out nobody who is subscribed.
use Rattle.std.specs.Prelude.{◌≡◌, Bool, false, List, ℕ, Some, None, codes, nat_eq}
use Rattle.std.specs.List.{All, starts_with}
use Rattle.sip_text.specs.declared.address.Addr.{Addr}
use Rattle.sip_read.specs.declared.message.Request.{Request}
use Rattle.notifier_model.specs.declared.place.Place.{Place}
use Rattle.notifier_model.specs.declared.event.Event.TheVariants.{Request as Comes}
use Rattle.notifier_model.specs.Answers.{kept_answer}
use Rattle.notifier_model.specs.Book.{Book, step}
use Rattle.notifier_model.specs.Out.{Send, Answers, Notifies, Starts}
use Rattle.notifier_model.specs.Requests.{key_of_request}

-- is it an answer 503 (RFC 3261 section 21.5.4)?
abbrev pub is_503 : Send → Bool
is_503 (Answers to bytes) = starts_with nat_eq bytes (codes "SIP/2.0 503 ")
is_503 (Notifies to mailbox text) = false
is_503 (Starts tag refer_to) = false

-- A request with a To tag, which no kept answer answers, isn't answered 503, whatever the book holds.
abbrev pub NeverFullLaw : Type 0
NeverFullLaw = (place : Place) (b : Book) (source : Addr) (r : Request) (tag : List ℕ) →
    r.head.to.tag ≡ Some tag → kept_answer b.ring (key_of_request r) ≡ None →
    All (λ out. is_503 out ≡ false) (step place b (Comes source r)).outs
