-- What a change makes of the packages: of the first box of each name, and of each resource.
use Rattle.std.proofs.Common.{◌≡◌, ℕ, List, [], ◌∷◌, Option, Some, None, Bool, true, false, ◌&&◌, refl, sym, ◌∙◌, ap, subst, arith}
use Rattle.std.proofs.lemmas.Bool.Decides.{nat_tests}
use Rattle.std.specs.Prelude.{if◌then◌else◌, ◌||◌, ◌==◌, bytes_eq, option_map, is_some, codes}
use Rattle.package.specs.declared.counts.Counts.{Counts}
use Rattle.package.specs.Content.{Content, OfMail, OfStatus, Contents, held, with_held, mail_package, refer_package, Seen, is_final, finite_maps}
use Rattle.life.proofs.Texts.{Bytes, bytes_same, bytes_own}
use Rattle.package.specs.Values.{MailChange, Progress}
use Rattle.package.specs.declared.change.Change.{Change}
use Rattle.package.specs.declared.change.Change.TheVariants.{Mail, Begin, Step, Forget}
use Rattle.package.specs.declared.change.Outcome.{Outcome}
use Rattle.package.specs.declared.change.Outcome.TheVariants.{Changed, Same, Unknown}
use Rattle.package.specs.Changes.{counts_of, with_counts, same_counts, event_of_change, applied, mail_at, begin_at, step_at, change_of}
use Rattle.package.specs.Boxes.{first_box, after_box, before_boxes, change_first, held_by, content_in}
use Rattle.package.proofs.OneChange.{new_content, applied_held}
use Rattle.life.proofs.Maps.{held-with}

abbrev pub boxes_without : List Seen → Bytes → List Seen
boxes_without boxes tag = (change_first boxes (Forget tag)).1

-- a change leaves the first box of another name
pub change-other : (boxes : List Seen) (c : Change) (name : Bytes) → bytes_eq (event_of_change c) name ≡ false → first_box name (change_first boxes c).1 ≡ first_box name boxes
change-other [] c name h = refl
change-other (box ∷ boxes) c name h = by_name (change-other boxes c name h) (bytes_eq box.name (event_of_change c)) refl
  where
    by_name : first_box name (change_first boxes c).1 ≡ first_box name boxes → (d : Bool) → bytes_eq box.name (event_of_change c) ≡ d → first_box name (if d then before_boxes (change_of box c) boxes else after_box box (change_first boxes c)).1 ≡ (if bytes_eq box.name name then Some box else first_box name boxes)
    by_name ih true e =
        let at : box.name ≡ event_of_change c = bytes_same box.name (event_of_change c) e in
        let f : bytes_eq box.name name ≡ false = subst (λ (n : Bytes). bytes_eq n name ≡ false) (sym at) h in
        rw (e, f) refl
    by_name ih false e = rw ih refl

-- the first box of the change's name, after it
unfoldable pub box_after : Change → Option Seen → Option Seen
box_after c None = None
box_after c (Some box) = Some (record box { contents = (applied finite_maps box.contents c).1 })

unfoldable pub outcome_at : Change → Option Seen → Outcome
outcome_at c None = Unknown
outcome_at c (Some box) = (applied finite_maps box.contents c).0

pub change-own : (boxes : List Seen) (c : Change) → first_box (event_of_change c) (change_first boxes c).1 ≡ box_after c (first_box (event_of_change c) boxes)
unfolding box_after
change-own [] c = refl
change-own (box ∷ boxes) c = by_name (change-own boxes c) (bytes_eq box.name (event_of_change c)) refl
  where
    by_name : first_box (event_of_change c) (change_first boxes c).1 ≡ box_after c (first_box (event_of_change c) boxes) → (d : Bool) → bytes_eq box.name (event_of_change c) ≡ d → first_box (event_of_change c) (if d then before_boxes (change_of box c) boxes else after_box box (change_first boxes c)).1 ≡ box_after c (if d then Some box else first_box (event_of_change c) boxes)
    by_name ih true e = rw (e, e) refl
    by_name ih false e = rw e ih

pub change-outcome : (boxes : List Seen) (c : Change) → (change_first boxes c).0 ≡ outcome_at c (first_box (event_of_change c) boxes)
unfolding outcome_at
change-outcome [] c = refl
change-outcome (box ∷ boxes) c = by_name (change-outcome boxes c) (bytes_eq box.name (event_of_change c)) refl
  where
    by_name : (change_first boxes c).0 ≡ outcome_at c (first_box (event_of_change c) boxes) → (d : Bool) → bytes_eq box.name (event_of_change c) ≡ d → (if d then before_boxes (change_of box c) boxes else after_box box (change_first boxes c)).0 ≡ outcome_at c (if d then Some box else first_box (event_of_change c) boxes)
    by_name ih true e = rw e refl
    by_name ih false e = ih

-- the content type of a name's first box stays
pub types-stay : (boxes : List Seen) (c : Change) (name : Bytes) → option_map (λ (box : Seen). box.content_type) (first_box name (change_first boxes c).1) ≡ option_map (λ (box : Seen). box.content_type) (first_box name boxes)
types-stay boxes c name = by_name (bytes_eq (event_of_change c) name) refl
  where
    own_stays : (o : Option Seen) → option_map (λ (box : Seen). box.content_type) (box_after c o) ≡ option_map (λ (box : Seen). box.content_type) o
    own_stays None = unfold box_after in refl
    own_stays (Some box) = unfold box_after in refl

    by_name : (d : Bool) → bytes_eq (event_of_change c) name ≡ d → option_map (λ (box : Seen). box.content_type) (first_box name (change_first boxes c).1) ≡ option_map (λ (box : Seen). box.content_type) (first_box name boxes)
    by_name true e =
        let at : event_of_change c ≡ name = bytes_same (event_of_change c) name e in
        subst (λ (n : Bytes). option_map (λ (box : Seen). box.content_type) (first_box n (change_first boxes c).1) ≡ option_map (λ (box : Seen). box.content_type) (first_box n boxes)) at
        (ap (option_map (λ (box : Seen). box.content_type)) (change-own boxes c) ∙ own_stays (first_box (event_of_change c) boxes))
    by_name false e = ap (option_map (λ (box : Seen). box.content_type)) (change-other boxes c name e)

-- what another package holds stays
pub content-other : (boxes : List Seen) (c : Change) (name resource : Bytes) → bytes_eq (event_of_change c) name ≡ false → content_in (change_first boxes c).1 name resource ≡ content_in boxes name resource
content-other boxes c name resource h = ap (held_by resource) (change-other boxes c name h)

-- ---- mail

-- what a mail change makes of what is held of its mailbox
unfoldable pub mailed : MailChange → Option Content → Option Content
mailed m o = new_content (Mail m) o

unfoldable pub mail_outcome : MailChange → Option Content → Outcome
mail_outcome m None = Unknown
mail_outcome m (Some (OfStatus code reason)) = Unknown
mail_outcome m (Some (OfMail counts)) = if same_counts (counts_of m.class counts) (Some m.counts) then Same else Changed

pub same_counts-own : (o : Option Counts) → same_counts o o ≡ true
same_counts-own None = refl
same_counts-own (Some m) = rw (own m.new_count, own m.old_count, own m.urgent_new, own m.urgent_old) refl
  where
    own : (a : ℕ) → (a == a) ≡ true
    own a = grind (arith, nat_tests)

pub mail-after : (boxes : List Seen) (m : MailChange) (resource : Bytes) → content_in (change_first boxes (Mail m)).1 mail_package resource ≡ (if bytes_eq resource m.mailbox then mailed m (content_in boxes mail_package resource) else content_in boxes mail_package resource)
mail-after boxes m resource = ap (held_by resource) (change-own boxes (Mail m)) ∙ by_box (first_box mail_package boxes)
  where
    both_none : (d : Bool) → None ≡ (if d then mailed m None else None)
    both_none true = unfold mailed in refl
    both_none false = refl

    by_box : (o : Option Seen) → held_by resource (box_after (Mail m) o) ≡ (if bytes_eq resource m.mailbox then mailed m (held_by resource o) else held_by resource o)
    by_box None = unfold box_after in both_none (bytes_eq resource m.mailbox)
    by_box (Some box) = unfold box_after mailed in applied_held box.contents (Mail m) resource

pub mail-outcome : (boxes : List Seen) (m : MailChange) → (change_first boxes (Mail m)).0 ≡ mail_outcome m (content_in boxes mail_package m.mailbox)
mail-outcome boxes m = change-outcome boxes (Mail m) ∙ by_box (first_box mail_package boxes)
  where
    by_held : (contents : Contents) (o : Option Content) → (mail_at finite_maps contents m o).0 ≡ mail_outcome m o
    by_held contents None = unfold mail_outcome in refl
    by_held contents (Some (OfStatus code reason)) = unfold mail_outcome in refl
    by_held contents (Some (OfMail counts)) = unfold mail_outcome in by_same (same_counts (counts_of m.class counts) (Some m.counts))
      where
        by_same : (d : Bool) → (if◌then◌else◌ {A = Outcome × Contents} d (Same, contents) (Changed, with_held contents m.mailbox (OfMail (with_counts m.class m.counts counts)))).0 ≡ (if d then Same else Changed)
        by_same true = refl
        by_same false = refl

    by_box : (o : Option Seen) → outcome_at (Mail m) o ≡ mail_outcome m (held_by m.mailbox o)
    by_box None = unfold outcome_at mail_outcome in refl
    by_box (Some box) = unfold outcome_at in by_held box.contents (held box.contents m.mailbox)

-- ---- transfers

-- what a step makes of how far its transfer has come
unfoldable pub stepped : Progress → Option Content → Option Content
stepped p o = new_content (Step p) o

unfoldable pub step_outcome : Progress → Option Content → Outcome
step_outcome p None = Unknown
step_outcome p (Some (OfMail counts)) = Unknown
step_outcome p (Some (OfStatus code reason)) = if is_final code || ((code == p.code) && bytes_eq reason p.reason) then Same else Changed

pub step-after : (boxes : List Seen) (p : Progress) (resource : Bytes) → content_in (change_first boxes (Step p)).1 refer_package resource ≡ (if bytes_eq resource p.tag then stepped p (content_in boxes refer_package resource) else content_in boxes refer_package resource)
step-after boxes p resource = ap (held_by resource) (change-own boxes (Step p)) ∙ by_box (first_box refer_package boxes)
  where
    both_none : (d : Bool) → None ≡ (if d then stepped p None else None)
    both_none true = unfold stepped in refl
    both_none false = refl

    by_box : (o : Option Seen) → held_by resource (box_after (Step p) o) ≡ (if bytes_eq resource p.tag then stepped p (held_by resource o) else held_by resource o)
    by_box None = unfold box_after in both_none (bytes_eq resource p.tag)
    by_box (Some box) = unfold box_after stepped in applied_held box.contents (Step p) resource

pub step-outcome : (boxes : List Seen) (p : Progress) → (change_first boxes (Step p)).0 ≡ step_outcome p (content_in boxes refer_package p.tag)
step-outcome boxes p = change-outcome boxes (Step p) ∙ by_box (first_box refer_package boxes)
  where
    by_held : (contents : Contents) (o : Option Content) → (step_at finite_maps contents p o).0 ≡ step_outcome p o
    by_held contents None = unfold step_outcome in refl
    by_held contents (Some (OfMail counts)) = unfold step_outcome in refl
    by_held contents (Some (OfStatus code reason)) = unfold step_outcome in by_same (is_final code || ((code == p.code) && bytes_eq reason p.reason))
      where
        by_same : (d : Bool) → (if◌then◌else◌ {A = Outcome × Contents} d (Same, contents) (Changed, with_held contents p.tag (OfStatus p.code p.reason))).0 ≡ (if d then Same else Changed)
        by_same true = refl
        by_same false = refl

    by_box : (o : Option Seen) → outcome_at (Step p) o ≡ step_outcome p (held_by p.tag o)
    by_box None = unfold outcome_at step_outcome in refl
    by_box (Some box) = unfold outcome_at in by_held box.contents (held box.contents p.tag)

-- a transfer that begins
pub begin-own : (boxes : List Seen) (tag : Bytes) → is_some (first_box refer_package boxes) ≡ true → content_in boxes refer_package tag ≡ None → content_in (change_first boxes (Begin tag)).1 refer_package tag ≡ Some (OfStatus 100 (codes "Trying"))
begin-own boxes tag there none = ap (held_by tag) (change-own boxes (Begin tag)) ∙ by_box (first_box refer_package boxes) there none
  where
    by_held : (contents : Contents) (o : Option Content) → o ≡ None → held (begin_at finite_maps contents tag o).1 tag ≡ Some (OfStatus 100 (codes "Trying"))
    by_held contents None e = held-with contents tag (OfStatus 100 (codes "Trying")) tag ∙ rw (bytes_own tag) refl
    by_held contents (Some c) e = absurd (cc)

    by_box : (o : Option Seen) → is_some o ≡ true → held_by tag o ≡ None → held_by tag (box_after (Begin tag) o) ≡ Some (OfStatus 100 (codes "Trying"))
    by_box None there none = absurd (cc)
    by_box (Some box) there none = unfold box_after in by_held box.contents (held box.contents tag) none

pub begin-elsewhere : (boxes : List Seen) (tag resource : Bytes) → bytes_eq resource tag ≡ false → content_in (change_first boxes (Begin tag)).1 refer_package resource ≡ content_in boxes refer_package resource
begin-elsewhere boxes tag resource f = ap (held_by resource) (change-own boxes (Begin tag)) ∙ by_box (first_box refer_package boxes)
  where
    by_held : (contents : Contents) (o : Option Content) → held (begin_at finite_maps contents tag o).1 resource ≡ held contents resource
    by_held contents None = held-with contents tag (OfStatus 100 (codes "Trying")) resource ∙ rw f refl
    by_held contents (Some c) = refl

    by_box : (o : Option Seen) → held_by resource (box_after (Begin tag) o) ≡ held_by resource o
    by_box None = unfold box_after in refl
    by_box (Some box) = unfold box_after in by_held box.contents (held box.contents tag)

-- a transfer that is forgotten
pub forget-after : (boxes : List Seen) (tag resource : Bytes) → content_in (boxes_without boxes tag) refer_package resource ≡ (if bytes_eq resource tag then None else content_in boxes refer_package resource)
forget-after boxes tag resource = ap (held_by resource) (change-own boxes (Forget tag)) ∙ by_box (first_box refer_package boxes)
  where
    both_none : (d : Bool) → ◌≡◌ {A = Option Content} None (if d then None else None)
    both_none true = refl
    both_none false = refl

    by_box : (o : Option Seen) → held_by resource (box_after (Forget tag) o) ≡ (if bytes_eq resource tag then None else held_by resource o)
    by_box None = unfold box_after in both_none (bytes_eq resource tag)
    by_box (Some box) = unfold box_after in applied_held box.contents (Forget tag) resource
