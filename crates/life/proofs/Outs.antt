-- What goes out with a tag are the NOTIFYs of the records that they are written from.
use Rattle.std.proofs.Common.{◌≡◌, List, [], ◌∷◌, map, Bool, true, false, Option, refl, ap, subst}
use Rattle.std.specs.Prelude.{if◌then◌else◌, bytes_eq}
use Rattle.sip_text.specs.declared.address.Addr.{Addr}
use Rattle.sip_write.specs.Notify.{NotifyText, notify_text}
use Rattle.notifier_model.specs.declared.event.Out.TheVariants.{Notify}
use Rattle.notifier_model.specs.Start.{tag_of}
use Rattle.notifier_model.specs.Out.{Send, Answers, Notifies, Starts, out_of, is_last, note_of, Notification, notification, notifications}
use Rattle.notifier_model.specs.Run.{made}
use Rattle.life.specs.Laws.{notifies_with, outs, IsNotify, AreNotifies, LifeLaw}
use Rattle.life.proofs.Texts.{Bytes, bytes_same}
use Rattle.life.proofs.Law.{notices_law}

pub of_record : (tag : Bytes) (to : Addr) (mailbox : Option Bytes) (n : NotifyText) → n.local_tag ≡ tag → IsNotify tag (notification to mailbox n) (out_of (Notifies to mailbox n))
unfolding out_of
of_record tag to mailbox n same = record {
  text = n;
  local_tag = same;
  number = refl;
  state = refl;
  body = refl;
  watcher = refl;
  target = refl;
  call_id = refl;
  out_is = ap (λ (t : Bytes). Notify to n.number (is_last n.state) t (note_of t (notification to mailbox n)) (notify_text n)) same;
}

of_records : (tag : Bytes) (sends : List Send) → AreNotifies tag (notifications tag sends) (notifies_with tag (map out_of sends))
unfolding notifications notifies_with out_of
of_records tag [] = tt
of_records tag (Answers to bytes ∷ more) = of_records tag more
of_records tag (Starts t refer_to ∷ more) = of_records tag more
of_records tag (Notifies to mailbox n ∷ more) = by_tag (of_records tag more) (bytes_eq n.local_tag tag) refl
  where
    by_tag : AreNotifies tag (notifications tag more) (notifies_with tag (map out_of more)) → (d : Bool) → bytes_eq n.local_tag tag ≡ d → AreNotifies tag (if d then notification to mailbox n ∷ notifications tag more else notifications tag more) (if d then out_of (Notifies to mailbox n) ∷ notifies_with tag (map out_of more) else notifies_with tag (map out_of more))
    by_tag rest true e = (of_record tag to mailbox n (bytes_same n.local_tag tag e), rest)
    by_tag rest false e = rest

pub life_law : LifeLaw
life_law start serial es ok small =
    subst (λ (ns : List Notification). AreNotifies (tag_of start.place serial) ns (notifies_with (tag_of start.place serial) (outs start es))) (notices_law start serial es ok small) (of_records (tag_of start.place serial) (made start es))
