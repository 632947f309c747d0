-- Changes one by one leave what is told by the whole list.
use Rattle.std.proofs.Common.{◌≡◌, ℕ, List, [], ◌∷◌, Bool, true, false, cond, ◌||◌, ◌&&◌, refl, sym, ap, subst, ◌∙◌, codes, Option, None, Some, unwrap_or}
use Rattle.std.specs.Prelude.{bytes_eq, ◌==◌, find}
use Rattle.std.specs.List.{filter_map, cons_option, list_any, last_or, after_first, after_last}
use Rattle.std.proofs.lemmas.Slice.Eq.{bytes_eq-Decides}
use Rattle.package.specs.declared.counts.Class.{Class}
use Rattle.package.specs.declared.counts.Class.TheVariants.{Voice, Fax, Pager, Multimedia, Text}
use Rattle.package.specs.declared.counts.Counts.{Counts}
use Rattle.package.specs.declared.change.Change.{Change}
use Rattle.package.specs.declared.change.Change.TheVariants.{Mail, Begin, Step, Forget}
use Rattle.package.specs.Values.{MailChange, Progress}
use Rattle.package.specs.Content.{Content, OfMail, OfStatus, held, SuitsPackage, is_final, mail_package, refer_package}
use Rattle.package.specs.Changes.{with_counts, change_of, event_of_change, resource_of}
use Rattle.package.specs.Run.{place, counts_for, mailbox_after, Status, trying, begins, forgets, status_for, last_status, furthest, status_since, status_born, transfer_after, ContentLaw, KindLaw}
use Rattle.package.proofs.Parts.{after_last-none, after_last-cons_some, after_last-cons_here, after_first-here, after_first-later}
use Rattle.package.proofs.OneChange.{new_content, step_on, change_held, change_name, change_type, change_kind}

-- ---- mailboxes

-- `mailbox_after` of a mail change and the changes that follow, by whether it is to this mailbox
abbrev told_of : Bool → Class → Counts → List ℕ → Option Content → List Change → Option Content
told_of b class n q None cs = None
told_of b class n q (Some (OfStatus code reason)) cs = Some (OfStatus code reason)
told_of b class n q (Some (OfMail first)) cs = Some (OfMail (record {
  voice = last_or first.voice (cons_option (cond (b && (place class == 0)) (Some n) None) (filter_map (counts_for q Voice) cs));
  fax = last_or first.fax (cons_option (cond (b && (place class == 1)) (Some n) None) (filter_map (counts_for q Fax) cs));
  pager = last_or first.pager (cons_option (cond (b && (place class == 2)) (Some n) None) (filter_map (counts_for q Pager) cs));
  multimedia = last_or first.multimedia (cons_option (cond (b && (place class == 3)) (Some n) None) (filter_map (counts_for q Multimedia) cs));
  text = last_or first.text (cons_option (cond (b && (place class == 4)) (Some n) None) (filter_map (counts_for q Text) cs));
}))

abbrev mailed : Class → Counts → Option Content → Option Content
mailed class n None = None
mailed class n (Some (OfMail m)) = Some (OfMail (with_counts class n m))
mailed class n (Some (OfStatus code reason)) = Some (OfStatus code reason)

told : (b : Bool) (class : Class) (n : Counts) (q : List ℕ) (o : Option Content) (cs : List Change) → mailbox_after q (cond b (mailed class n o) o) cs ≡ told_of b class n q o cs
told true class n q None cs = refl
told true class n q (Some (OfStatus code reason)) cs = refl
told true Voice n q (Some (OfMail m)) cs = refl
told true Fax n q (Some (OfMail m)) cs = refl
told true Pager n q (Some (OfMail m)) cs = refl
told true Multimedia n q (Some (OfMail m)) cs = refl
told true Text n q (Some (OfMail m)) cs = refl
told false class n q None cs = refl
told false class n q (Some (OfStatus code reason)) cs = refl
told false class n q (Some (OfMail m)) cs = refl

-- the same as `new_content` at a mail change
mail_content : (c : MailChange) (o : Option Content) → new_content (Mail c) o ≡ mailed c.class c.counts o
mail_content c None = refl
mail_content c (Some (OfMail m)) = refl
mail_content c (Some (OfStatus code reason)) = refl

told_whole : (c : MailChange) (q : List ℕ) (o : Option Content) (cs : List Change) → told_of (bytes_eq q c.mailbox) c.class c.counts q o cs ≡ mailbox_after q o (Mail c ∷ cs)
told_whole c q None cs = refl
told_whole c q (Some (OfMail m)) cs = refl
told_whole c q (Some (OfStatus code reason)) cs = refl

mail_more : (c : MailChange) (q : List ℕ) (o : Option Content) (cs : List Change) → mailbox_after q (cond (bytes_eq q c.mailbox) (new_content (Mail c) o) o) cs ≡ mailbox_after q o (Mail c ∷ cs)
mail_more c q o cs =
    ap (λ x. mailbox_after q (cond (bytes_eq q c.mailbox) x o) cs) (mail_content c o)
    ∙ told (bytes_eq q c.mailbox) c.class c.counts q o cs
    ∙ told_whole c q o cs

-- ---- transfers

module _ (q : List ℕ) where
  -- a change that neither begins nor forgets the transfer
  born_more : (c : Change) (cs : List Change) → forgets q c ≡ false → begins q c ≡ false → status_born q (after_last (forgets q) cs) ≡ status_born q (after_last (forgets q) (c ∷ cs))
  born_more c cs f b = by (list_any (forgets q) cs) refl
    where
      later : status_born q cs ≡ status_born q (c ∷ cs)
      later =
          ap (λ x. cond (list_any (begins q) cs) (status_since q trying x) None) (sym (after_first-later (begins q) c cs b))
          ∙ ap (λ x. cond (x || list_any (begins q) cs) (status_since q trying (after_first (begins q) (c ∷ cs))) None) (sym b)

      by : (any : Bool) → list_any (forgets q) cs ≡ any → status_born q (after_last (forgets q) cs) ≡ status_born q (after_last (forgets q) (c ∷ cs))
      by true e = ap (status_born q) (sym (after_last-cons_some (forgets q) c cs e))
      by false e =
          ap (status_born q) (after_last-none (forgets q) cs e) ∙ later
          ∙ ap (status_born q) (sym (after_last-none (forgets q) (c ∷ cs) (ap (λ x. x || list_any (forgets q) cs) f ∙ e)))

  since_more : (c : Change) (cs : List Change) (s : Status) → status_for q c ≡ None → status_since q s cs ≡ status_since q s (c ∷ cs)
  since_more c cs s n = ap (λ x. let t = furthest s (cons_option x (filter_map (status_for q) cs)) in Some (OfStatus t.0 t.1)) (sym n)

  -- a status that was held, by the changes that follow one that doesn't forget it
  kept_more : (c : Change) (cs : List Change) (s t : Status) → forgets q c ≡ false → status_since q s cs ≡ status_since q t (c ∷ cs) →
      cond (list_any (forgets q) cs) (status_born q (after_last (forgets q) cs)) (status_since q s cs)
      ≡ cond (list_any (forgets q) (c ∷ cs)) (status_born q (after_last (forgets q) (c ∷ cs))) (status_since q t (c ∷ cs))
  kept_more c cs s t f e = by (list_any (forgets q) cs) refl
    where
      by : (any : Bool) → list_any (forgets q) cs ≡ any →
          cond (list_any (forgets q) cs) (status_born q (after_last (forgets q) cs)) (status_since q s cs)
          ≡ cond (list_any (forgets q) (c ∷ cs)) (status_born q (after_last (forgets q) (c ∷ cs))) (status_since q t (c ∷ cs))
      by true a =
          ap (λ x. cond x (status_born q (after_last (forgets q) cs)) (status_since q s cs)) a
          ∙ ap (status_born q) (sym (after_last-cons_some (forgets q) c cs a))
          ∙ ap (λ x. cond x (status_born q (after_last (forgets q) (c ∷ cs))) (status_since q t (c ∷ cs))) (sym (ap (λ x. x || list_any (forgets q) cs) f ∙ a))
      by false a =
          ap (λ x. cond x (status_born q (after_last (forgets q) cs)) (status_since q s cs)) a
          ∙ e
          ∙ ap (λ x. cond x (status_born q (after_last (forgets q) (c ∷ cs))) (status_since q t (c ∷ cs))) (sym (ap (λ x. x || list_any (forgets q) cs) f ∙ a))

  -- a change that doesn't concern it
  other_more : (c : Change) (cs : List Change) (o : Option Content) → forgets q c ≡ false → begins q c ≡ false → status_for q c ≡ None → transfer_after q o cs ≡ transfer_after q o (c ∷ cs)
  other_more c cs None f b n = born_more c cs f b
  other_more c cs (Some (OfMail m)) f b n = refl
  other_more c cs (Some (OfStatus code reason)) f b n = kept_more c cs (code, reason) (code, reason) f (since_more c cs (code, reason) n)

  begin_more : (tag : List ℕ) (cs : List Change) (o : Option Content) → bytes_eq q tag ≡ true → transfer_after q (new_content (Begin tag) o) cs ≡ transfer_after q o (Begin tag ∷ cs)
  begin_more tag cs None e = by (list_any (forgets q) cs) refl
    where
      by : (any : Bool) → list_any (forgets q) cs ≡ any → transfer_after q (Some (OfStatus 100 (codes "Trying"))) cs ≡ status_born q (after_last (forgets q) (Begin tag ∷ cs))
      by true a =
          ap (λ x. cond x (status_born q (after_last (forgets q) cs)) (status_since q trying cs)) a
          ∙ ap (status_born q) (sym (after_last-cons_some (forgets q) (Begin tag) cs a))
      by false a =
          ap (λ x. cond x (status_born q (after_last (forgets q) cs)) (status_since q trying cs)) a
          ∙ ap (status_since q trying) (sym (after_first-here (begins q) (Begin tag) cs e))
          ∙ ap (λ x. cond (x || list_any (begins q) cs) (status_since q trying (after_first (begins q) (Begin tag ∷ cs))) None) (sym e)
          ∙ ap (status_born q) (sym (after_last-none (forgets q) (Begin tag ∷ cs) a))
  begin_more tag cs (Some (OfMail m)) e = refl
  begin_more tag cs (Some (OfStatus code reason)) e = kept_more (Begin tag) cs (code, reason) (code, reason) refl refl

  step_more : (p : Progress) (cs : List Change) (o : Option Content) → bytes_eq q p.tag ≡ true → transfer_after q (new_content (Step p) o) cs ≡ transfer_after q o (Step p ∷ cs)
  step_more p cs None e = born_more (Step p) cs refl refl
  step_more p cs (Some (OfMail m)) e = refl
  step_more p cs (Some (OfStatus code reason)) e = by (is_final code) refl
    where
      -- its status is told
      told_status : status_since q (code, reason) (Step p ∷ cs) ≡ (let t = furthest (code, reason) ((p.code, p.reason) ∷ filter_map (status_for q) cs) in Some (OfStatus t.0 t.1))
      told_status = ap (λ x. let t = furthest (code, reason) (cons_option (cond x (Some (p.code, p.reason)) None) (filter_map (status_for q) cs)) in Some (OfStatus t.0 t.1)) e

      by : (b : Bool) → is_final code ≡ b → transfer_after q (cond b (Some (OfStatus code reason)) (Some (OfStatus p.code p.reason))) cs ≡ transfer_after q (Some (OfStatus code reason)) (Step p ∷ cs)
      by true f = kept_more (Step p) cs (code, reason) (code, reason) refl (
          ap (λ x. let t = unwrap_or (cond x (Some (code, reason)) (find (λ s. is_final s.0) (filter_map (status_for q) cs))) (last_status (code, reason) (filter_map (status_for q) cs)) in Some (OfStatus t.0 t.1)) f
          ∙ ap (λ x. let t = unwrap_or (cond x (Some (code, reason)) (find (λ s. is_final s.0) ((p.code, p.reason) ∷ filter_map (status_for q) cs))) (last_status (p.code, p.reason) (filter_map (status_for q) cs)) in Some (OfStatus t.0 t.1)) (sym f)
          ∙ sym told_status)
      by false f = kept_more (Step p) cs (p.code, p.reason) (code, reason) refl (
          ap (λ x. let t = unwrap_or (cond x (Some (code, reason)) (find (λ s. is_final s.0) ((p.code, p.reason) ∷ filter_map (status_for q) cs))) (last_status (p.code, p.reason) (filter_map (status_for q) cs)) in Some (OfStatus t.0 t.1)) (sym f)
          ∙ sym told_status)

  forget_more : (tag : List ℕ) (cs : List Change) (o : Option Content) → bytes_eq q tag ≡ true → SuitsPackage refer_package o → transfer_after q None cs ≡ transfer_after q o (Forget tag ∷ cs)
  forget_more tag cs o e s = born ∙ whole o s
    where
      born : status_born q (after_last (forgets q) cs) ≡ status_born q (after_last (forgets q) (Forget tag ∷ cs))
      born = by (list_any (forgets q) cs) refl
        where
          by : (any : Bool) → list_any (forgets q) cs ≡ any → status_born q (after_last (forgets q) cs) ≡ status_born q (after_last (forgets q) (Forget tag ∷ cs))
          by true a = ap (status_born q) (sym (after_last-cons_some (forgets q) (Forget tag) cs a))
          by false a = ap (status_born q) (after_last-none (forgets q) cs a ∙ sym (after_last-cons_here (forgets q) (Forget tag) cs a e))

      whole : (o : Option Content) → SuitsPackage refer_package o → status_born q (after_last (forgets q) (Forget tag ∷ cs)) ≡ transfer_after q o (Forget tag ∷ cs)
      whole None s = refl
      whole (Some (OfMail m)) s = absurd (s refl)
      whole (Some (OfStatus code reason)) s = ap (λ x. cond (x || list_any (forgets q) cs) (status_born q (after_last (forgets q) (Forget tag ∷ cs))) (status_since q (code, reason) (Forget tag ∷ cs))) (sym e)

  -- a change of the package `refer`
  refer_more : (c : Change) (cs : List Change) (o : Option Content) → bytes_eq refer_package (event_of_change c) ≡ true → SuitsPackage refer_package o → transfer_after q (cond (bytes_eq q (resource_of c)) (new_content c o) o) cs ≡ transfer_after q o (c ∷ cs)
  refer_more (Mail c) cs o e s = absurd (cc)
  refer_more (Begin tag) cs o e s = by (bytes_eq q tag) refl
    where
      by : (b : Bool) → bytes_eq q tag ≡ b → transfer_after q (cond b (new_content (Begin tag) o) o) cs ≡ transfer_after q o (Begin tag ∷ cs)
      by true f = begin_more tag cs o f
      by false f = other_more (Begin tag) cs o refl f refl
  refer_more (Step p) cs o e s = by (bytes_eq q p.tag) refl
    where
      by : (b : Bool) → bytes_eq q p.tag ≡ b → transfer_after q (cond b (new_content (Step p) o) o) cs ≡ transfer_after q o (Step p ∷ cs)
      by true f = step_more p cs o f
      by false f = other_more (Step p) cs o refl refl (ap (λ x. cond x (Some (p.code, p.reason)) None) f)
  refer_more (Forget tag) cs o e s = by (bytes_eq q tag) refl
    where
      by : (b : Bool) → bytes_eq q tag ≡ b → transfer_after q (cond b None o) cs ≡ transfer_after q o (Forget tag ∷ cs)
      by true f = forget_more tag cs o f s
      by false f = other_more (Forget tag) cs o f refl refl

  -- a change of another package
  foreign_mail : (c : Change) (cs : List Change) (o : Option Content) → bytes_eq mail_package (event_of_change c) ≡ false → mailbox_after q o cs ≡ mailbox_after q o (c ∷ cs)
  foreign_mail (Mail c) cs o e = absurd (cc)
  foreign_mail (Begin tag) cs None e = refl
  foreign_mail (Begin tag) cs (Some (OfMail m)) e = refl
  foreign_mail (Begin tag) cs (Some (OfStatus code reason)) e = refl
  foreign_mail (Step p) cs None e = refl
  foreign_mail (Step p) cs (Some (OfMail m)) e = refl
  foreign_mail (Step p) cs (Some (OfStatus code reason)) e = refl
  foreign_mail (Forget tag) cs None e = refl
  foreign_mail (Forget tag) cs (Some (OfMail m)) e = refl
  foreign_mail (Forget tag) cs (Some (OfStatus code reason)) e = refl

  foreign_refer : (c : Change) (cs : List Change) (o : Option Content) → bytes_eq refer_package (event_of_change c) ≡ false → transfer_after q o cs ≡ transfer_after q o (c ∷ cs)
  foreign_refer (Mail c) cs o e = other_more (Mail c) cs o refl refl refl
  foreign_refer (Begin tag) cs o e = absurd (cc)
  foreign_refer (Step p) cs o e = absurd (cc)
  foreign_refer (Forget tag) cs o e = absurd (cc)

  -- ---- either

  abbrev after : List ℕ → Option Content → List Change → Option Content
  after name o cs = cond (bytes_eq name mail_package) (mailbox_after q o cs) (cond (bytes_eq name refer_package) (transfer_after q o cs) o)

  mail_one : (c : Change) (cs : List Change) (o : Option Content) → mailbox_after q (step_on mail_package c q o) cs ≡ mailbox_after q o (c ∷ cs)
  mail_one (Mail c) cs o = mail_more c q o cs
  mail_one (Begin tag) cs o = foreign_mail (Begin tag) cs o refl
  mail_one (Step p) cs o = foreign_mail (Step p) cs o refl
  mail_one (Forget tag) cs o = foreign_mail (Forget tag) cs o refl

  refer_one : (c : Change) (cs : List Change) (o : Option Content) → SuitsPackage refer_package o → transfer_after q (step_on refer_package c q o) cs ≡ transfer_after q o (c ∷ cs)
  refer_one (Mail c) cs o s = foreign_refer (Mail c) cs o refl
  refer_one (Begin tag) cs o s = refer_more (Begin tag) cs o refl s
  refer_one (Step p) cs o s = refer_more (Step p) cs o refl s
  refer_one (Forget tag) cs o s = refer_more (Forget tag) cs o refl s

  -- a package of another name takes no change
  none_one : (name : List ℕ) (c : Change) (o : Option Content) → bytes_eq name mail_package ≡ false → bytes_eq name refer_package ≡ false → step_on name c q o ≡ o
  none_one name (Mail c) o m r = ap (λ x. cond x (cond (bytes_eq q c.mailbox) (new_content (Mail c) o) o) o) m
  none_one name (Begin tag) o m r = ap (λ x. cond x (cond (bytes_eq q tag) (new_content (Begin tag) o) o) o) r
  none_one name (Step p) o m r = ap (λ x. cond x (cond (bytes_eq q p.tag) (new_content (Step p) o) o) o) r
  none_one name (Forget tag) o m r = ap (λ x. cond x (cond (bytes_eq q tag) None o) o) r

  one_more : (name : List ℕ) (c : Change) (cs : List Change) (o : Option Content) → SuitsPackage name o → after name (step_on name c q o) cs ≡ after name o (c ∷ cs)
  one_more name c cs o s = by (bytes_eq name mail_package) refl (bytes_eq name refer_package) refl
    where
      by : (a : Bool) → bytes_eq name mail_package ≡ a → (b : Bool) → bytes_eq name refer_package ≡ b →
          cond a (mailbox_after q (step_on name c q o) cs) (cond b (transfer_after q (step_on name c q o) cs) (step_on name c q o))
          ≡ cond a (mailbox_after q o (c ∷ cs)) (cond b (transfer_after q o (c ∷ cs)) o)
      by true m b r =
          let n : name ≡ mail_package = (bytes_eq-Decides name mail_package).0 m in
          ap (λ x. mailbox_after q (step_on x c q o) cs) n ∙ mail_one c cs o
      by false m true r =
          let n : name ≡ refer_package = (bytes_eq-Decides name refer_package).0 r in
          ap (λ x. transfer_after q (step_on x c q o) cs) n ∙ refer_one c cs o (subst (λ x. SuitsPackage x o) n s)
      by false m false r = none_one name c o m r

  none_yet : (name : List ℕ) (o : Option Content) → o ≡ after name o []
  none_yet name o = by (bytes_eq name mail_package) (bytes_eq name refer_package) o
    where
      first : (s : Status) → Some (OfStatus s.0 s.1) ≡ status_since q s []
      first s = either (is_final s.0)
        where
          either : (b : Bool) → Some (OfStatus s.0 s.1) ≡ (let t = unwrap_or (cond b (Some s) None) s in Some (OfStatus t.0 t.1))
          either true = refl
          either false = refl

      by : (a b : Bool) (o : Option Content) → o ≡ cond a (mailbox_after q o []) (cond b (transfer_after q o []) o)
      by true b None = refl
      by true b (Some (OfMail m)) = refl
      by true b (Some (OfStatus code reason)) = refl
      by false true None = refl
      by false true (Some (OfMail m)) = refl
      by false true (Some (OfStatus code reason)) = first (code, reason)
      by false false o = refl

pub content_law : ContentLaw
content_law box [] q k = none_yet q box.name (held box.contents q)
content_law box (c ∷ cs) q k =
    content_law (change_of box c).1 cs q (change_kind box c k)
    ∙ ap (λ n. after q n (held (change_of box c).1.contents q) cs) (change_name box c)
    ∙ ap (λ o. after q box.name o cs) (change_held box c q)
    ∙ one_more q box.name c cs (held box.contents q) (k q)

pub kind_law : KindLaw
kind_law box [] k = (refl, refl, k)
kind_law box (c ∷ cs) k =
    let r = kind_law (change_of box c).1 cs (change_kind box c k) in
    (r.0 ∙ change_name box c, r.1 ∙ change_type box c, r.2)
