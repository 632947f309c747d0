-- The step at which a mail change comes.
use Rattle.std.proofs.Common.{◌≡◌, ℕ, ◌-◌, List, [], ◌∷◌, Option, Some, None, Bool, true, false, not, ◌&&◌, refl, sym, ◌∙◌, ap, subst, arith}
use Rattle.std.specs.Prelude.{if◌then◌else◌, ◌==◌, bytes_eq}
use Rattle.std.proofs.lemmas.Bool.Decides.{nat_tests}
use Rattle.std.proofs.Math.Bool.{and-true}
use Rattle.package.specs.declared.counts.Counts.{Counts}
use Rattle.package.specs.declared.counts.MailCounts.{MailCounts}
use Rattle.package.specs.Content.{Content, OfMail, OfStatus, mail_package, refer_package, Seen}
use Rattle.life.proofs.Texts.{Bytes, bytes_own, bytes_same, bytes_other_way, if_is}
use Rattle.package.specs.declared.counts.Class.{Class}
use Rattle.package.specs.declared.counts.Class.TheVariants.{Voice, Fax, Pager, Multimedia, Text}
use Rattle.package.specs.Values.{MailChange}
use Rattle.package.specs.declared.change.Change.TheVariants.{Mail}
use Rattle.package.specs.declared.change.Outcome.{Outcome}
use Rattle.package.specs.declared.change.Outcome.TheVariants.{Changed, Same, Unknown}
use Rattle.package.specs.Changes.{counts_of, with_counts, same_counts}
use Rattle.package.specs.Boxes.{change_first, content_in}
use Rattle.package.specs.Bodies.{body_of_held}
use Rattle.subscription.specs.Table.{changed}
use Rattle.notifier_model.specs.Start.{Start, tag_of}
use Rattle.notifier_model.specs.declared.event.Event.{Event}
use Rattle.notifier_model.specs.declared.event.Event.TheVariants.{Mail as Mails}
use Rattle.notifier_model.specs.Requests.{is_refer, user_part, event_of}
use Rattle.notifier_model.specs.declared.row.Row.{Row}
use Rattle.notifier_model.specs.Book.{Book, nothing, content_changed, step}
use Rattle.notifier_model.specs.Rows.{stays, wherever, opened, with_sub, tells, tells_change, tells_watcher}
use Rattle.notifier_model.specs.Out.{notifications}
use Rattle.life.specs.Past.{now, same_class, last_counts, mail_content, content, keys}
use Rattle.life.specs.Life.{Life, Then, MailChanged, birth, last_heard, address, number, end_of_grant, status, is_touched, just_made, unanswered, ended, is_removed, is_gone, target}
use Rattle.life.specs.Lives.{same_content, is_changed, when, life, birth_at, begun}
use Rattle.life.specs.Notices.{body}
use Rattle.life.proofs.Boxes.{mailed, mail_outcome, mail-after, mail-outcome, types-stay, content-other, same_counts-own}
use Rattle.life.proofs.Rows.{row_of, sub_of, want_of, usage_of, accepted_cseq, last_cseq}
use Rattle.life.proofs.Deeds.{lived-mails}
use Rattle.life.proofs.NextLives.{Ranges, births-of_none}
use Rattle.life.proofs.SoundLives.{sound_of}
use Rattle.life.proofs.Turns.{told_from, Follows, told_follows}
use Rattle.life.proofs.AllRows.{TurnsInto, Rules}
use Rattle.life.proofs.Invariant.{Holdings, Holds, Goes}
use Rattle.life.proofs.RepliesAndTicks.{by_all_rows, by_nothing, transfers_same, body-is}

-- ---- what the life says of a mailbox

-- one class is set
set_one : (class : Class) (n : Counts) (v f p m t : Option Counts) → Some (OfMail (record {
  voice = if true && same_class class Voice then Some n else v;
  fax = if true && same_class class Fax then Some n else f;
  pager = if true && same_class class Pager then Some n else p;
  multimedia = if true && same_class class Multimedia then Some n else m;
  text = if true && same_class class Text then Some n else t;
})) ≡ Some (OfMail (with_counts class n (record { voice = v; fax = f; pager = p; multimedia = m; text = t })))
set_one Voice n v f p m t = refl
set_one Fax n v f p m t = refl
set_one Pager n v f p m t = refl
set_one Multimedia n v f p m t = refl
set_one Text n v f p m t = refl

pub same_way : (a b : Bytes) (d : Bool) → bytes_eq a b ≡ d → bytes_eq b a ≡ d
same_way a b true e = subst (λ (x : Bytes). bytes_eq x a ≡ true) (bytes_same a b e) (bytes_own a)
same_way a b false e = bytes_other_way a b e

mail-life : (m : MailChange) (past : List Event) (resource : Bytes) (o : Option Content) → mail_content resource (Mails m ∷ past) o ≡ (if bytes_eq resource m.mailbox then mailed m (mail_content resource past o) else mail_content resource past o)
unfolding mail_content mailed last_counts
mail-life m past resource None = if_is (λ (c : Option Content). None ≡ c) (bytes_eq resource m.mailbox) None None (λ h. refl) (λ h. refl)
mail-life m past resource (Some (OfStatus code reason)) = if_is (λ (c : Option Content). Some (OfStatus code reason) ≡ c) (bytes_eq resource m.mailbox) (Some (OfStatus code reason)) (Some (OfStatus code reason)) (λ h. refl) (λ h. refl)
mail-life m past resource (Some (OfMail first)) = by_place (bytes_eq resource m.mailbox) refl
  where
    by_place : (d : Bool) → bytes_eq resource m.mailbox ≡ d → mail_content resource (Mails m ∷ past) (Some (OfMail first)) ≡ (if d then mailed m (mail_content resource past (Some (OfMail first))) else mail_content resource past (Some (OfMail first)))
    by_place true e = rw (same_way resource m.mailbox true e)
        (set_one m.class m.counts (last_counts resource Voice first.voice past) (last_counts resource Fax first.fax past) (last_counts resource Pager first.pager past) (last_counts resource Multimedia first.multimedia past) (last_counts resource Text first.text past))
    by_place false e = rw (same_way resource m.mailbox false e) refl

pub content-mail : (start : Start) (m : MailChange) (past : List Event) (resource : Bytes) → content start (Mails m ∷ past) mail_package resource ≡ (if bytes_eq resource m.mailbox then mailed m (content start past mail_package resource) else content start past mail_package resource)
unfolding content
content-mail start m past resource = mail-life m past resource (content_in start.boxes mail_package resource)

content-mail-other : (start : Start) (m : MailChange) (past : List Event) (name resource : Bytes) → bytes_eq name mail_package ≡ false → content start (Mails m ∷ past) name resource ≡ content start past name resource
unfolding content
content-mail-other start m past name resource f = rw f refl

-- ---- the packages after the change

mail_holdings : (start : Start) (past : List Event) (m : MailChange) (boxes : List Seen) → Holdings start past boxes → Holdings start (Mails m ∷ past) (change_first boxes (Mail m)).1
unfolding birth_at begun
mail_holdings start past m boxes hold = record {
  types = λ name. types-stay boxes (Mail m) name ∙ hold.types name;
  contents = λ name resource f. by_name name resource f (bytes_eq mail_package name) refl;
  transfers = transfers_same start past (Mails m) (change_first boxes (Mail m)).1 refl refl (λ s l is alive refers. content-other boxes (Mail m) refer_package (tag_of start.place s) refl ∙ hold.transfers s l is alive refers);
  not_begun = λ s later small. content-other boxes (Mail m) refer_package (tag_of start.place s) refl ∙ hold.not_begun s (rw (← births-of_none start past (Mails m) refl) later) small;
}
  where
    own : (resource : Bytes) → content_in (change_first boxes (Mail m)).1 mail_package resource ≡ content start (Mails m ∷ past) mail_package resource
    own resource = mail-after boxes m resource ∙ (ap (λ (c : Option Content). if bytes_eq resource m.mailbox then mailed m c else c) (hold.contents mail_package resource refl) ∙ sym (content-mail start m past resource))

    by_name : (name resource : Bytes) → bytes_eq name refer_package ≡ false → (d : Bool) → bytes_eq mail_package name ≡ d → content_in (change_first boxes (Mail m)).1 name resource ≡ content start (Mails m ∷ past) name resource
    by_name name resource f true e = subst (λ (n : Bytes). content_in (change_first boxes (Mail m)).1 n resource ≡ content start (Mails m ∷ past) n resource) (bytes_same mail_package name e) (own resource)
    by_name name resource f false e = content-other boxes (Mail m) name resource e ∙ (hold.contents name resource f ∙ sym (content-mail-other start m past name resource (bytes_other_way mail_package name e)))

-- ---- whether it changes anything

same_counts-sym : (n : Counts) (o : Option Counts) → same_counts (Some n) o ≡ same_counts o (Some n)
same_counts-sym n None = refl
same_counts-sym n (Some m) = rw (flip n.new_count m.new_count, flip n.old_count m.old_count, flip n.urgent_new m.urgent_new, flip n.urgent_old m.urgent_old) refl
  where
    flip : (a b : ℕ) → (a == b) ≡ (b == a)
    flip a b = grind (arith, nat_tests)

same_with : (class : Class) (n : Counts) (m : MailCounts) → same_content (Some (OfMail (with_counts class n m))) (Some (OfMail m)) ≡ same_counts (counts_of class m) (Some n)
same_with Voice n m = rw (same_counts-own m.fax, same_counts-own m.pager, same_counts-own m.multimedia, same_counts-own m.text) (and-true (same_counts (Some n) m.voice) ∙ same_counts-sym n m.voice)
same_with Fax n m = rw (same_counts-own m.voice, same_counts-own m.pager, same_counts-own m.multimedia, same_counts-own m.text) (and-true (same_counts (Some n) m.fax) ∙ same_counts-sym n m.fax)
same_with Pager n m = rw (same_counts-own m.voice, same_counts-own m.fax, same_counts-own m.multimedia, same_counts-own m.text) (and-true (same_counts (Some n) m.pager) ∙ same_counts-sym n m.pager)
same_with Multimedia n m = rw (same_counts-own m.voice, same_counts-own m.fax, same_counts-own m.pager, same_counts-own m.text) (and-true (same_counts (Some n) m.multimedia) ∙ same_counts-sym n m.multimedia)
same_with Text n m = rw (same_counts-own m.voice, same_counts-own m.fax, same_counts-own m.pager, same_counts-own m.multimedia) (same_counts-sym n m.text)

abbrev is_change : Outcome → Bool
is_change Changed = true
is_change Same = false
is_change Unknown = false

mail-differs : (m : MailChange) (c : Option Content) → not (same_content (mailed m c) c) ≡ is_change (mail_outcome m c)
unfolding mailed mail_outcome
mail-differs m None = refl
mail-differs m (Some (OfStatus code reason)) = rw (own code, bytes_own reason) refl
  where
    own : (a : ℕ) → (a == a) ≡ true
    own a = grind (arith, nat_tests)
mail-differs m (Some (OfMail counts)) = ap not (same_with m.class m.counts counts) ∙ by_same (same_counts (counts_of m.class counts) (Some m.counts))
  where
    by_same : (d : Bool) → not d ≡ is_change (if d then Same else Changed)
    by_same true = refl
    by_same false = refl

changed-is : (start : Start) (past : List Event) (m : MailChange) (boxes : List Seen) → Holdings start past boxes → not (same_content (content start (Mails m ∷ past) mail_package m.mailbox) (content start past mail_package m.mailbox)) ≡ is_change (change_first boxes (Mail m)).0
changed-is start past m boxes hold =
    ap (λ (c : Option Content). not (same_content c (content start past mail_package m.mailbox))) (content-mail start m past m.mailbox ∙ ap (λ (d : Bool). if d then mailed m (content start past mail_package m.mailbox) else content start past mail_package m.mailbox) (bytes_own m.mailbox))
    ∙ (mail-differs m (content start past mail_package m.mailbox) ∙ ap is_change (ap (mail_outcome m) (sym (hold.contents mail_package m.mailbox refl)) ∙ sym (mail-outcome boxes m)))

-- ---- the step

mail_nothing : (start : Start) (past : List Event) (m : MailChange) (boxes : List Seen) → Holdings start past boxes → is_change (change_first boxes (Mail m)).0 ≡ false → Rules start past (Mails m) stays
unfolding is_changed
mail_nothing start past m boxes hold e s l is alive =
    rw (lived-mails start s past m l, changed-is start past m boxes hold, e) (drop (bytes_eq (event_of (birth l)).package mail_package) (bytes_eq (user_part (birth l).uri) m.mailbox))
  where
    drop : (a b : Bool) → TurnsInto start s (Mails m ∷ past) (stays (row_of start s l)) l (when ((a && b) && false) (Then (now past) MailChanged l))
    drop true true = refl
    drop true false = refl
    drop false b = refl

changed_follows : (start : Start) (past : List Event) (m : MailChange) (b : Book) (s : ℕ) (l : Life) → Ranges start.place.limits → b.clock ≡ now past → Holdings start past b.boxes → life start past s ≡ Some l → is_gone start.place.limits l ≡ false
    → Follows start s (Mails m ∷ past) (tells (told_from start.place (change_first b.boxes (Mail m)).1 b.clock) (row_of start s l) (changed (row_of start s l).sub b.clock false)) (Then (now past) MailChanged l)
unfolding tells changed opened unanswered just_made row_of sub_of usage_of want_of target accepted_cseq number address end_of_grant last_heard birth last_cseq now is_touched ended is_removed
changed_follows start past m b s l ok clock hold is alive =
    told_follows start (change_first b.boxes (Mail m)).1 b.clock (address start.place.limits l) (with_sub (row_of start s l)) (sub_of start s (Then (now past) MailChanged l)) (end_of_grant start.place.limits l - b.clock) s (Mails m ∷ past) (Then (now past) MailChanged l)
    refl refl same_body (rw clock refl) (ap (λ (n : ℕ). end_of_grant start.place.limits l - n) clock) refl refl refl
  where
    same_body : body_of_held (content_in (change_first b.boxes (Mail m)).1 (want_of start s l).event.package (want_of start s l).resource) ≡ body start (Mails m ∷ past) (Then (now past) MailChanged l)
    same_body = unfold body birth status want_of address last_heard in body-is start (Mails m ∷ past) (change_first b.boxes (Mail m)).1 s l (sound_of start past s l ok is).plain (mail_holdings start past m b.boxes hold).contents
        (λ refers. content-other b.boxes (Mail m) refer_package (tag_of start.place s) refl ∙ hold.transfers s l is alive refers)

mail_turns : (start : Start) (past : List Event) (m : MailChange) (b : Book) → Ranges start.place.limits → b.clock ≡ now past → Holdings start past b.boxes → is_change (change_first b.boxes (Mail m)).0 ≡ true → Rules start past (Mails m) (tells_watcher (told_from start.place (change_first b.boxes (Mail m)).1 b.clock) mail_package m.mailbox false)
unfolding is_changed tells_watcher tells_change wherever
mail_turns start past m b ok clock hold e s l is alive = rw (lived-mails start s past m l, changed-is start past m b.boxes hold, e) (unfold row_of sub_of want_of in by_refer (is_refer (birth l)) refl)
  where
    row : Row
    row = row_of start s l

    by_tests : (a c : Bool) → TurnsInto start s (Mails m ∷ past) (if a && c then tells (told_from start.place (change_first b.boxes (Mail m)).1 b.clock) (row_of start s l) (changed (row_of start s l).sub b.clock false) else stays (row_of start s l)) l (when ((a && c) && true) (Then (now past) MailChanged l))
    by_tests true true = changed_follows start past m b s l ok clock hold is alive
    by_tests true false = refl
    by_tests false c = refl

    by_refer : (d : Bool) → is_refer (birth l) ≡ d → TurnsInto start s (Mails m ∷ past) (if bytes_eq (event_of (birth l)).package mail_package && bytes_eq (if d then tag_of start.place s else user_part (birth l).uri) m.mailbox then tells (told_from start.place (change_first b.boxes (Mail m)).1 b.clock) (row_of start s l) (changed (row_of start s l).sub b.clock false) else stays (row_of start s l)) l (when ((bytes_eq (event_of (birth l)).package mail_package && bytes_eq (user_part (birth l).uri) m.mailbox) && true) (Then (now past) MailChanged l))
    by_refer true g =
        let other : bytes_eq (event_of (birth l)).package mail_package ≡ false = unfold event_of in (rw g refl) in
        rw other refl
    by_refer false g = by_tests (bytes_eq (event_of (birth l)).package mail_package) (bytes_eq (user_part (birth l).uri) m.mailbox)

pub mail_goes : (start : Start) (past : List Event) (m : MailChange) (b : Book) → Ranges start.place.limits → Holds start past b → Goes start past (Mails m) (step start.place b (Mails m))
unfolding step keys now birth_at begun nothing content_changed
mail_goes start past m b ok h = by_outcome (change_first b.boxes (Mail m)).0 refl
  where
    after : Holdings start (Mails m ∷ past) (change_first b.boxes (Mail m)).1
    after = mail_holdings start past m b.boxes h.boxes_hold

    unchanged : is_change (change_first b.boxes (Mail m)).0 ≡ false → Goes start past (Mails m) (record { book = record b { boxes = (change_first b.boxes (Mail m)).1 }; outs = [] })
    unchanged e = by_nothing start past (Mails m) (record b { boxes = (change_first b.boxes (Mail m)).1 }) [] ok refl h.clock_is h.next_is h.rows_are after h.ring_is (λ tag. unfold notifications in refl) (mail_nothing start past m b.boxes h.boxes_hold e)

    by_outcome : (o : Outcome) → (change_first b.boxes (Mail m)).0 ≡ o → Goes start past (Mails m) (content_changed start.place b mail_package m.mailbox false (o, (change_first b.boxes (Mail m)).1))
    by_outcome Changed e =
        by_all_rows start past (Mails m) (record b { boxes = (change_first b.boxes (Mail m)).1 }) (tells_watcher (told_from start.place (change_first b.boxes (Mail m)).1 b.clock) mail_package m.mailbox false) [] ok refl h.clock_is h.next_is h.rows_are after h.ring_is (λ tag more. refl)
        (mail_turns start past m b ok h.clock_is h.boxes_hold (ap is_change e))
    by_outcome Same e = unchanged (ap is_change e)
    by_outcome Unknown e = unchanged (ap is_change e)
