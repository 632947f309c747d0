-- What one change makes of what is held of a resource.
use Rattle.std.proofs.Common.{◌≡◌, ℕ, List, Bool, true, false, cond, ◌||◌, ◌&&◌, refl, sym, ap, subst, ◌∙◌, codes, Option, None, Some, eqb-true}
use Rattle.std.specs.Prelude.{bytes_eq, ◌==◌}
use Rattle.std.specs.FinMap.{get-insert, get-remove}
use Rattle.std.specs.Cmp.Lexicographic.{nat_list_cmp_total}
use Rattle.std.proofs.lemmas.Map.Text.{is_eq-slice_cmp}
use Rattle.std.proofs.lemmas.Slice.Eq.{bytes_eq-Decides}
use Rattle.package.specs.declared.counts.Class.{Class}
use Rattle.package.specs.declared.counts.Class.TheVariants.{Voice, Fax, Pager, Multimedia, Text}
use Rattle.package.specs.declared.counts.Counts.{Counts}
use Rattle.package.specs.declared.counts.MailCounts.{MailCounts}
use Rattle.package.specs.declared.change.Change.{Change}
use Rattle.package.specs.declared.change.Change.TheVariants.{Mail, Begin, Step, Forget}
use Rattle.package.specs.declared.change.Outcome.{Outcome}
use Rattle.package.specs.declared.change.Outcome.TheVariants.{Changed, Same, Unknown}
use Rattle.package.specs.Values.{MailChange, Progress}
use Rattle.package.specs.Content.{finite_maps, Content, OfMail, OfStatus, Contents, held, with_held, without_held, Seen, is_final, SuitsPackage, KeepsKind, mail_package, refer_package}
use Rattle.package.specs.Changes.{counts_of, with_counts, same_counts, mail_at, begin_at, step_at, forget_at, applied, event_of_change, resource_of, change_of, with_contents}

pub and_true : (a b : Bool) → (a && b) ≡ true → (a ≡ true) × (b ≡ true)
and_true true b e = (refl, e)
and_true false b e = absurd (cc)

-- ---- what is held after one entry more or less

held-with : (m : Contents) (k q : List ℕ) (x : Content) → held (with_held m k x) q ≡ cond (bytes_eq q k) (Some x) (held m q)
held-with m k q x = get-insert nat_list_cmp_total m k x q ∙ ap (λ b. cond b (Some x) (held m q)) (is_eq-slice_cmp q k)

held-without : (m : Contents) (k q : List ℕ) → held (without_held m k) q ≡ cond (bytes_eq q k) None (held m q)
held-without m k q = get-remove nat_list_cmp_total m k q ∙ ap (λ b. cond b None (held m q)) (is_eq-slice_cmp q k)

-- what is held of k, seen from q
seen_from : (m : Contents) (k q : List ℕ) (o : Option Content) → held m k ≡ o → held m q ≡ cond (bytes_eq q k) o (held m q)
seen_from m k q o e = by (bytes_eq q k) refl
  where
    by : (b : Bool) → bytes_eq q k ≡ b → held m q ≡ cond b o (held m q)
    by true p = ap (held m) ((bytes_eq-Decides q k).0 p) ∙ e
    by false p = refl

-- ---- what is held of the resource that a change names

abbrev pub new_content : Change → Option Content → Option Content
new_content (Mail c) None = None
new_content (Mail c) (Some (OfMail m)) = Some (OfMail (with_counts c.class c.counts m))
new_content (Mail c) (Some (OfStatus code reason)) = Some (OfStatus code reason)
new_content (Begin tag) None = Some (OfStatus 100 (codes "Trying"))
new_content (Begin tag) (Some content) = Some content
new_content (Step p) None = None
new_content (Step p) (Some (OfMail m)) = Some (OfMail m)
new_content (Step p) (Some (OfStatus code reason)) = cond (is_final code) (Some (OfStatus code reason)) (Some (OfStatus p.code p.reason))
new_content (Forget tag) o = None

pub same_counts-true : (m : Option Counts) (n : Counts) → same_counts m (Some n) ≡ true → m ≡ Some n
same_counts-true None n e = absurd (cc)
same_counts-true (Some m) n e =
    let p = and_true _ _ e in
    let q = and_true _ _ p.1 in
    let r = and_true _ _ q.1 in
    let a : m.new_count ≡ n.new_count = eqb-true _ _ p.0 in
    let b : m.old_count ≡ n.old_count = eqb-true _ _ q.0 in
    let c : m.urgent_new ≡ n.urgent_new = eqb-true _ _ r.0 in
    let d : m.urgent_old ≡ n.urgent_old = eqb-true _ _ r.1 in
    λ i. Some (record { new_count = a i; old_count = b i; urgent_new = c i; urgent_old = d i })

with_counts-same : (class : Class) (n : Counts) (m : MailCounts) → counts_of class m ≡ Some n → m ≡ with_counts class n m
with_counts-same Voice n m e = ap (λ x. record m { voice = x }) e
with_counts-same Fax n m e = ap (λ x. record m { fax = x }) e
with_counts-same Pager n m e = ap (λ x. record m { pager = x }) e
with_counts-same Multimedia n m e = ap (λ x. record m { multimedia = x }) e
with_counts-same Text n m e = ap (λ x. record m { text = x }) e

mail_held : (m : Contents) (c : MailChange) (q : List ℕ) (o : Option Content) → held m c.mailbox ≡ o → held (mail_at finite_maps m c o).1 q ≡ cond (bytes_eq q c.mailbox) (new_content (Mail c) o) (held m q)
mail_held m c q None e = seen_from m c.mailbox q None e
mail_held m c q (Some (OfStatus code reason)) e = seen_from m c.mailbox q (Some (OfStatus code reason)) e
mail_held m c q (Some (OfMail n)) e = by (same_counts (counts_of c.class n) (Some c.counts)) refl
  where
    by : (b : Bool) → same_counts (counts_of c.class n) (Some c.counts) ≡ b → held (cond {A = Outcome × Contents} b (Same, m) (Changed, with_held m c.mailbox (OfMail (with_counts c.class c.counts n)))).1 q ≡ cond (bytes_eq q c.mailbox) (Some (OfMail (with_counts c.class c.counts n))) (held m q)
    by true p = seen_from m c.mailbox q _ (e ∙ ap (λ x. Some (OfMail x)) (with_counts-same c.class c.counts n (same_counts-true _ _ p)))
    by false p = held-with m c.mailbox q _

begin_held : (m : Contents) (tag q : List ℕ) (o : Option Content) → held m tag ≡ o → held (begin_at finite_maps m tag o).1 q ≡ cond (bytes_eq q tag) (new_content (Begin tag) o) (held m q)
begin_held m tag q None e = held-with m tag q _
begin_held m tag q (Some x) e = seen_from m tag q (Some x) e

step_held : (m : Contents) (p : Progress) (q : List ℕ) (o : Option Content) → held m p.tag ≡ o → held (step_at finite_maps m p o).1 q ≡ cond (bytes_eq q p.tag) (new_content (Step p) o) (held m q)
step_held m p q None e = seen_from m p.tag q None e
step_held m p q (Some (OfMail n)) e = seen_from m p.tag q (Some (OfMail n)) e
step_held m p q (Some (OfStatus code reason)) e = by (is_final code) ((code == p.code) && bytes_eq reason p.reason) refl
  where
    by : (f same : Bool) → ((code == p.code) && bytes_eq reason p.reason) ≡ same → held (cond {A = Outcome × Contents} (f || same) (Same, m) (Changed, with_held m p.tag (OfStatus p.code p.reason))).1 q ≡ cond (bytes_eq q p.tag) (cond f (Some (OfStatus code reason)) (Some (OfStatus p.code p.reason))) (held m q)
    by true same t = seen_from m p.tag q _ e
    by false true t =
        let parts = and_true _ _ t in
        let a : code ≡ p.code = eqb-true _ _ parts.0 in
        let b : reason ≡ p.reason = (bytes_eq-Decides reason p.reason).0 parts.1 in
        seen_from m p.tag q _ (e ∙ (λ i. Some (OfStatus (a i) (b i))))
    by false false t = held-with m p.tag q _

forget_held : (m : Contents) (tag q : List ℕ) (o : Option Content) → held m tag ≡ o → held (forget_at finite_maps m tag o).1 q ≡ cond (bytes_eq q tag) None (held m q)
forget_held m tag q None e = seen_from m tag q None e
forget_held m tag q (Some x) e = held-without m tag q

-- the same, from what is held of q
by_own : (m : Contents) (c : Change) (q r : List ℕ) → cond (bytes_eq q r) (new_content c (held m r)) (held m q) ≡ cond (bytes_eq q r) (new_content c (held m q)) (held m q)
by_own m c q r = by (bytes_eq q r) refl
  where
    by : (b : Bool) → bytes_eq q r ≡ b → cond b (new_content c (held m r)) (held m q) ≡ cond b (new_content c (held m q)) (held m q)
    by true p = ap (λ x. new_content c (held m x)) (sym ((bytes_eq-Decides q r).0 p))
    by false p = refl

pub applied_held : (m : Contents) (c : Change) (q : List ℕ) → held (applied finite_maps m c).1 q ≡ cond (bytes_eq q (resource_of c)) (new_content c (held m q)) (held m q)
applied_held m (Mail c) q = mail_held m c q (held m c.mailbox) refl ∙ by_own m (Mail c) q c.mailbox
applied_held m (Begin tag) q = begin_held m tag q (held m tag) refl ∙ by_own m (Begin tag) q tag
applied_held m (Step p) q = step_held m p q (held m p.tag) refl ∙ by_own m (Step p) q p.tag
applied_held m (Forget tag) q = forget_held m tag q (held m tag) refl

-- ---- a box and one change

abbrev pub step_on : List ℕ → Change → List ℕ → Option Content → Option Content
step_on name c q o = cond (bytes_eq name (event_of_change c)) (cond (bytes_eq q (resource_of c)) (new_content c o) o) o

pub change_held : (box : Seen) (c : Change) (q : List ℕ) → held (change_of box c).1.contents q ≡ step_on box.name c q (held box.contents q)
change_held box c q = by (bytes_eq box.name (event_of_change c))
  where
    by : (b : Bool) → held (cond b (with_contents box (applied finite_maps box.contents c)) (Unknown, box)).1.contents q ≡ cond b (cond (bytes_eq q (resource_of c)) (new_content c (held box.contents q)) (held box.contents q)) (held box.contents q)
    by true = applied_held box.contents c q
    by false = refl

pub change_name : (box : Seen) (c : Change) → (change_of box c).1.name ≡ box.name
change_name box c = by (bytes_eq box.name (event_of_change c))
  where
    by : (b : Bool) → (cond b (with_contents box (applied finite_maps box.contents c)) (Unknown, box)).1.name ≡ box.name
    by true = refl
    by false = refl

pub change_type : (box : Seen) (c : Change) → (change_of box c).1.content_type ≡ box.content_type
change_type box c = by (bytes_eq box.name (event_of_change c))
  where
    by : (b : Bool) → (cond b (with_contents box (applied finite_maps box.contents c)) (Unknown, box)).1.content_type ≡ box.content_type
    by true = refl
    by false = refl

-- ---- it keeps its kind

not_mail : (name : List ℕ) → bytes_eq name refer_package ≡ true → name ≡ mail_package → ⊥
not_mail name e f = let g : name ≡ refer_package = (bytes_eq-Decides name refer_package).0 e in cc

new_suits : (name : List ℕ) (c : Change) (o : Option Content) → bytes_eq name (event_of_change c) ≡ true → SuitsPackage name o → SuitsPackage name (new_content c o)
new_suits name (Mail c) None e s = tt
new_suits name (Mail c) (Some (OfMail m)) e s = s
new_suits name (Mail c) (Some (OfStatus code reason)) e s = s
new_suits name (Begin tag) None e s = not_mail name e
new_suits name (Begin tag) (Some x) e s = s
new_suits name (Step p) None e s = tt
new_suits name (Step p) (Some (OfMail m)) e s = s
new_suits name (Step p) (Some (OfStatus code reason)) e s = by (is_final code)
  where
    by : (b : Bool) → SuitsPackage name (cond b (Some (OfStatus code reason)) (Some (OfStatus p.code p.reason)))
    by true = s
    by false = s
new_suits name (Forget tag) o e s = tt

step_suits : (name : List ℕ) (c : Change) (q : List ℕ) (o : Option Content) → SuitsPackage name o → SuitsPackage name (step_on name c q o)
step_suits name c q o s = by (bytes_eq name (event_of_change c)) refl (bytes_eq q (resource_of c))
  where
    by : (a : Bool) → bytes_eq name (event_of_change c) ≡ a → (b : Bool) → SuitsPackage name (cond a (cond b (new_content c o) o) o)
    by true e true = new_suits name c o e s
    by true e false = s
    by false e b = s

pub change_kind : (box : Seen) (c : Change) → KeepsKind box → KeepsKind (change_of box c).1
change_kind box c k = λ q.
    subst (λ n. SuitsPackage n (held (change_of box c).1.contents q)) (sym (change_name box c))
    (subst (SuitsPackage box.name) (sym (change_held box c q)) (step_suits box.name c q (held box.contents q) (k q)))
