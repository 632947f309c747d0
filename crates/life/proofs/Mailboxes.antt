-- What a life and what the packages say of a mailbox is the same.
use Rattle.std.proofs.Common.{◌≡◌, ℕ, List, [], ◌∷◌, ◌++◌, Option, Some, None, Bool, true, false, ◌&&◌, refl, sym, ◌∙◌, ap}
use Rattle.std.specs.Prelude.{if◌then◌else◌, ◌==◌, bytes_eq}
use Rattle.std.specs.List.{filter_map, last_or, cons_option}
use Rattle.std.proofs.lemmas.List.{append-nil}
use Rattle.std.proofs.lemmas.List.Elements.{filter_map-append}
use Rattle.package.specs.declared.counts.Class.{Class}
use Rattle.package.specs.declared.counts.Class.TheVariants.{Voice, Fax, Pager, Multimedia, Text}
use Rattle.package.specs.declared.counts.Counts.{Counts}
use Rattle.package.specs.declared.change.Change.TheVariants.{Mail as MailTo}
use Rattle.package.specs.Content.{OfMail, OfStatus}
use Rattle.package.specs.Run.{place, counts_for, last_counts as last_counts_of}
use Rattle.notifier_model.specs.declared.event.Event.{Event}
use Rattle.notifier_model.specs.declared.event.Event.TheVariants.{Request as Comes, Reply as Replies, Mail as Mails, Progress as Progresses, Tick as Ticks, Shut as Shuts}
use Rattle.life.specs.Past.{last_counts, mail_content}
use Rattle.life.specs.Sentences.{mail_changes, ContentsLaw}
use Rattle.life.proofs.MailChanges.{same_way}

last_of : {A : Type 0} (o : Option A) (xs : List A) (x : A) → last_or o (xs ++ x ∷ []) ≡ Some x
last_of o [] x = refl
last_of o (y ∷ xs) x = last_of (Some y) xs x

counts-are : (mailbox : List ℕ) (class : Class) (first : Option Counts) (past : List Event) → last_counts mailbox class first past ≡ last_counts_of mailbox class first (mail_changes past)
unfolding last_counts
counts-are mailbox class first [] = refl
counts-are mailbox class first (Mails m ∷ past) =
    rw (filter_map-append (counts_for mailbox class) (mail_changes past) (MailTo m ∷ []), same_way mailbox m.mailbox (bytes_eq mailbox m.mailbox) refl) (by_test (bytes_eq mailbox m.mailbox && (place m.class == place class)) (counts-are mailbox class first past))
  where
    by_test : (d : Bool) → last_counts mailbox class first past ≡ last_counts_of mailbox class first (mail_changes past) → (if d then Some m.counts else last_counts mailbox class first past) ≡ last_or first (filter_map (counts_for mailbox class) (mail_changes past) ++ cons_option (if d then Some m.counts else None) [])
    by_test true before = sym (last_of first (filter_map (counts_for mailbox class) (mail_changes past)) m.counts)
    by_test false before = before ∙ ap (last_or first) (sym (append-nil (filter_map (counts_for mailbox class) (mail_changes past))))
counts-are mailbox class first (Comes source r ∷ past) = counts-are mailbox class first past
counts-are mailbox class first (Replies r ∷ past) = counts-are mailbox class first past
counts-are mailbox class first (Progresses p ∷ past) = counts-are mailbox class first past
counts-are mailbox class first (Ticks t ∷ past) = counts-are mailbox class first past
counts-are mailbox class first (Shuts ∷ past) = counts-are mailbox class first past

pub contents_law : ContentsLaw
unfolding mail_content
contents_law mailbox past None = refl
contents_law mailbox past (Some (OfStatus code reason)) = refl
contents_law mailbox past (Some (OfMail first)) =
    rw (counts-are mailbox Voice first.voice past, counts-are mailbox Fax first.fax past, counts-are mailbox Pager first.pager past, counts-are mailbox Multimedia first.multimedia past, counts-are mailbox Text first.text past) refl
