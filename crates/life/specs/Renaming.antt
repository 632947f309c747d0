-- The same events under another tag.
use Rattle.std.specs.Prelude.{ℕ, List, [], ◌∷◌, if◌then◌else◌, Some, None, bytes_eq, Option}
use Rattle.sip_read.specs.declared.message.Request.{Request}
use Rattle.sip_read.specs.declared.message.Response.{Response}
use Rattle.notifier_model.specs.declared.event.Event.{Event}
use Rattle.notifier_model.specs.declared.event.Event.TheVariants.{Request as Comes, Reply as Replies, Mail as Mails, Progress as Progresses, Tick as Ticks, Shut as Shuts}

-- ---- another tag in place of its own: in the To of requests, the From of answers, and in word of transfers

abbrev pub other_tag : List ℕ → List ℕ → List ℕ → List ℕ
other_tag old new tag = if bytes_eq old tag then new else tag

abbrev pub renamed_tag : List ℕ → List ℕ → Option (List ℕ) → Option (List ℕ)
renamed_tag old new None = None
renamed_tag old new (Some tag) = Some (other_tag old new tag)

abbrev pub renamed_request : List ℕ → List ℕ → Request → Request
renamed_request old new r = record r { head = record r.head { to = record r.head.to { tag = renamed_tag old new r.head.to.tag } } }

abbrev pub renamed_answer : List ℕ → List ℕ → Response → Response
renamed_answer old new r = record r { head = record r.head { from = record r.head.from { tag = renamed_tag old new r.head.from.tag } } }

unfoldable pub renamed_event : List ℕ → List ℕ → Event → Event
renamed_event old new (Comes source r) = Comes source (renamed_request old new r)
renamed_event old new (Replies r) = Replies (renamed_answer old new r)
renamed_event old new (Mails m) = Mails m
renamed_event old new (Progresses p) = Progresses (record p { tag = other_tag old new p.tag })
renamed_event old new (Ticks t) = Ticks t
renamed_event old new Shuts = Shuts

unfoldable pub renamed : List ℕ → List ℕ → List Event → List Event
renamed old new [] = []
renamed old new (e ∷ past) = renamed_event old new e ∷ renamed old new past
