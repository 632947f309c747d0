-- The lines of a script: what is found is one, and one is found.
use Rattle.std.proofs.Common.{◌≡◌, ℕ, ◌<◌, ◌≤◌, ◌^◌, Bool, true, false, eqb, cond, List, ◌∷◌, ◌++◌, length, Option, Some, None, refl, ap, subst, ◌∙◌, arith}
use Rattle.std.specs.Prelude.{decimal, codes, bytes_eq, ◌&&◌, nat_le, nat_lt, not, SomeIff}
use Rattle.std.specs.List.{list_all}
use Rattle.std.specs.Str.{IsUtf8, is_utf8}
use Rattle.std.proofs.lemmas.Str.{IsUtf8-from_is_utf8, is_utf8-from_IsUtf8}
use Rattle.std.proofs.lemmas.Bool.Decides.{nat_tests}
use Rattle.std.proofs.lemmas.Slice.Eq.{bytes_eq-Decides}
use Rattle.package.specs.Values.{MailChange, Progress, IsMailChange, IsProgress as IsAllowedProgress}
use Rattle.package.specs.Texts.{is_word, is_printable, is_control, is_unbroken}
use Rattle.package.specs.declared.change.Change.{Change}
use Rattle.package.specs.declared.change.Change.TheVariants as change
use Rattle.package.specs.declared.counts.Counts.{Counts}
use Rattle.package.specs.declared.counts.Class.{Class}
use Rattle.package.specs.declared.counts.Class.TheVariants as class
use Rattle.scripts.specs.declared.script.Control.{Control}
use Rattle.scripts.specs.declared.script.Control.TheVariants as control
use Rattle.scripts.specs.Changes.{is_mail, is_progress, mail_of, progress_of}
use Rattle.sip_text.specs.Reading.{◌>>=◌, cut_at, plain_number, plain_up_to, text_of}
use Rattle.scripts.specs.Reading.{class_of, count_at, counts_of, mail_words, mail_at, progress_words, progress_at, named_at}
use Rattle.scripts.specs.Script.{class_text, mail_text, progress_text, control_text, IsMail, IsProgress, MayBeTold, IsControl}
use Rattle.sip_text.proofs.Cuts.{test_some, cut_takes, cut_again, Lacks, lacks_append, all_lacks}
use Rattle.sip_text.proofs.Pieces.{bind_some, some_is, and_both}
use Rattle.sip_text.proofs.PlainNumbers.{number_takes, number_again, up_to_takes, up_to_again}
use Rattle.sip_text.proofs.Addresses.{decimal_lacks}

pub text_taken : (t w : List ℕ) → text_of t ≡ Some w → (t ≡ w) × IsUtf8 w
text_taken t w e = let k = test_some (is_utf8 t) t w e in (k.1, rw (← k.1) (IsUtf8-from_is_utf8 t k.0))

pub text_again : (t : List ℕ) → IsUtf8 t → text_of t ≡ Some t
text_again t u = rw (is_utf8-from_IsUtf8 t u) refl

-- ---- what a mail change and a progress may be, as tests

pub allowed_mail : (m : MailChange) → is_mail m ≡ true → IsMailChange m
allowed_mail m h =
    let one = and_both (is_word m.mailbox && nat_le m.counts.urgent_new m.counts.new_count) (nat_le m.counts.urgent_old m.counts.old_count) h in
    let two = and_both (is_word m.mailbox) (nat_le m.counts.urgent_new m.counts.new_count) one.0 in
    let a = one.1 in
    let b = two.1 in
    record { named = two.0; urgent_new = grind (arith, nat_tests); urgent_old = grind (arith, nat_tests) }

pub mail_allowed : (m : MailChange) → IsMailChange m → is_mail m ≡ true
mail_allowed m h =
    let a = h.urgent_new in
    let b = h.urgent_old in
    let new_fits : nat_le m.counts.urgent_new m.counts.new_count ≡ true = grind (arith, nat_tests) in
    let old_fits : nat_le m.counts.urgent_old m.counts.old_count ≡ true = grind (arith, nat_tests) in
    rw (h.named, new_fits, old_fits) refl

pub allowed_progress : (g : Progress) → is_progress g ≡ true → IsAllowedProgress g
allowed_progress g h =
    let one = and_both (is_word g.tag && nat_le 100 g.code && nat_le g.code 699) (is_printable g.reason) h in
    let two = and_both (is_word g.tag && nat_le 100 g.code) (nat_le g.code 699) one.0 in
    let three = and_both (is_word g.tag) (nat_le 100 g.code) two.0 in
    let a = two.1 in
    let b = three.1 in
    record { tagged = three.0; from_100 = grind (arith, nat_tests); to_699 = grind (arith, nat_tests); plain = one.1 }

pub progress_allowed : (g : Progress) → IsAllowedProgress g → is_progress g ≡ true
progress_allowed g h =
    let a = h.from_100 in
    let b = h.to_699 in
    let low : nat_le 100 g.code ≡ true = grind (arith, nat_tests) in
    let high : nat_le g.code 699 ≡ true = grind (arith, nat_tests) in
    rw (h.tagged, low, high, h.plain) refl

-- what `new` promises is what the function gives
pub tested : {A : Type 0} {P : Type 0} (b : Bool) (v : A) (r : Option A) → (b ≡ true → P) → (P → b ≡ true) → SomeIff r P v → r ≡ cond b (Some v) None
tested true v (Some x) to from h = ap (λ y. Some y) h.1
tested false v (Some x) to from h = absurd (let e = from h.0 in cc)
tested true v None to from h = absurd (h (to refl))
tested false v None to from h = refl

-- ---- classes

pub same_text : (a b : List ℕ) → bytes_eq a b ≡ true → a ≡ b
same_text a b e = (bytes_eq-Decides a b).0 e

chosen_class : (w v : List ℕ) (c : Class) (other : Option Class) (k : Class) → v ≡ class_text c → cond (bytes_eq w v) (Some c) other ≡ Some k → (other ≡ Some k → w ≡ class_text k) → w ≡ class_text k
chosen_class w v c other k is e rest = step (bytes_eq w v) refl e where
  step : (q : Bool) → bytes_eq w v ≡ q → cond q (Some c) other ≡ Some k → w ≡ class_text k
  step true same e = same_text w v same ∙ is ∙ ap class_text (some_is c k e)
  step false differ e = rest e

abbrev or_text : List ℕ → Option Class
or_text w = cond (bytes_eq w (codes "text")) (Some class.Text) None

abbrev or_multimedia : List ℕ → Option Class
or_multimedia w = cond (bytes_eq w (codes "multimedia")) (Some class.Multimedia) (or_text w)

abbrev or_pager : List ℕ → Option Class
or_pager w = cond (bytes_eq w (codes "pager")) (Some class.Pager) (or_multimedia w)

abbrev or_fax : List ℕ → Option Class
or_fax w = cond (bytes_eq w (codes "fax")) (Some class.Fax) (or_pager w)

class_takes : (w : List ℕ) (k : Class) → class_of w ≡ Some k → w ≡ class_text k
unfolding class_of
class_takes w k e =
    chosen_class w (codes "voice") class.Voice (or_fax w) k refl e
    (λ e2. chosen_class w (codes "fax") class.Fax (or_pager w) k refl e2
    (λ e3. chosen_class w (codes "pager") class.Pager (or_multimedia w) k refl e3
    (λ e4. chosen_class w (codes "multimedia") class.Multimedia (or_text w) k refl e4
    (λ e5. chosen_class w (codes "text") class.Text None k refl e5 (λ e6. absurd cc)))))

class_again : (k : Class) → class_of (class_text k) ≡ Some k
unfolding class_of
class_again class.Voice = refl
class_again class.Fax = refl
class_again class.Pager = refl
class_again class.Multimedia = refl
class_again class.Text = refl

class_lacks_space : (k : Class) → Lacks 32 (class_text k)
class_lacks_space class.Voice = refl
class_lacks_space class.Fax = refl
class_lacks_space class.Pager = refl
class_lacks_space class.Multimedia = refl
class_lacks_space class.Text = refl

class_lacks_lf : (k : Class) → Lacks 10 (class_text k)
class_lacks_lf class.Voice = refl
class_lacks_lf class.Fax = refl
class_lacks_lf class.Pager = refl
class_lacks_lf class.Multimedia = refl
class_lacks_lf class.Text = refl

-- ---- MAIL

count_takes : (t : List ℕ) (n : ℕ) (r : List ℕ) → count_at t ≡ Some (n, r) → (t ≡ decimal n ++ 32 ∷ r) × (n ≤ 4294967295)
unfolding count_at
count_takes t n r e =
    let a = bind_some (cut_at 32 t) (λ p. plain_up_to 4294967295 p.0 >>= λ m. Some (m, p.1)) (n, r) e in
    let b = bind_some (plain_up_to 4294967295 a.0.0) (λ m. Some (m, a.0.1)) (n, r) a.2 in
    let pair = some_is (b.0, a.0.1) (n, r) b.2 in
    let n-is : b.0 ≡ n = ap (λ (p : ℕ × List ℕ). p.0) pair in
    let r-is : a.0.1 ≡ r = ap (λ (p : ℕ × List ℕ). p.1) pair in
    let c = cut_takes 32 t a.0.0 a.0.1 a.1 in
    let d = up_to_takes 4294967295 a.0.0 b.0 b.1 in
    (c.0 ∙ ap (λ (l : List ℕ). l ++ 32 ∷ a.0.1) d.0 ∙ ap (λ (m : ℕ). decimal m ++ 32 ∷ a.0.1) n-is ∙ ap (λ (l : List ℕ). decimal n ++ 32 ∷ l) r-is, rw (← n-is) d.2)

count_again : (n : ℕ) (r : List ℕ) → n ≤ 4294967295 → count_at (decimal n ++ 32 ∷ r) ≡ Some (n, r)
unfolding count_at
count_again n r le = rw (cut_again 32 (decimal n) r (decimal_lacks 32 n refl (omega arith)), up_to_again 4294967295 n le (omega arith)) refl

abbrev counts_text : Counts → List ℕ
counts_text c = decimal c.new_count ++ 32 ∷ (decimal c.old_count ++ 32 ∷ (decimal c.urgent_new ++ 32 ∷ decimal c.urgent_old))

record AreSmall (c : Counts) : Type 0 where
  new_count : c.new_count ≤ 4294967295
  old_count : c.old_count ≤ 4294967295
  urgent_new : c.urgent_new ≤ 4294967295
  urgent_old : c.urgent_old ≤ 4294967295

counts_take : (t : List ℕ) (c : Counts) → counts_of t ≡ Some c → (t ≡ counts_text c) × AreSmall c
unfolding counts_of
counts_take t c e =
    let last = λ (i j k n : ℕ). (let l : Option Counts = Some (record { new_count = i; old_count = j; urgent_new = k; urgent_old = n }) in l) in
    let p = bind_some (count_at t) (λ i. count_at i.1 >>= λ j. count_at j.1 >>= λ k. plain_up_to 4294967295 k.1 >>= λ n. last i.0 j.0 k.0 n) c e in
    let q = bind_some (count_at p.0.1) (λ j. count_at j.1 >>= λ k. plain_up_to 4294967295 k.1 >>= λ n. last p.0.0 j.0 k.0 n) c p.2 in
    let r = bind_some (count_at q.0.1) (λ k. plain_up_to 4294967295 k.1 >>= λ n. last p.0.0 q.0.0 k.0 n) c q.2 in
    let s = bind_some (plain_up_to 4294967295 r.0.1) (λ n. last p.0.0 q.0.0 r.0.0 n) c r.2 in
    let i = count_takes t p.0.0 p.0.1 p.1 in
    let j = count_takes p.0.1 q.0.0 q.0.1 q.1 in
    let k = count_takes q.0.1 r.0.0 r.0.1 r.1 in
    let n = up_to_takes 4294967295 r.0.1 s.0 s.1 in
    let made : Counts = record { new_count = p.0.0; old_count = q.0.0; urgent_new = r.0.0; urgent_old = s.0 } in
    let whole : t ≡ counts_text made = i.0 ∙ ap (λ (l : List ℕ). decimal p.0.0 ++ 32 ∷ l) (j.0 ∙ ap (λ (l : List ℕ). decimal q.0.0 ++ 32 ∷ l) (k.0 ∙ ap (λ (l : List ℕ). decimal r.0.0 ++ 32 ∷ l) n.0)) in
    subst (λ (x : Counts). (t ≡ counts_text x) × AreSmall x) (some_is made c s.2) (whole, record { new_count = i.1; old_count = j.1; urgent_new = k.1; urgent_old = n.2 })

counts_again : (c : Counts) → AreSmall c → counts_of (counts_text c) ≡ Some c
unfolding counts_of
counts_again c h =
    rw (
      count_again c.new_count (decimal c.old_count ++ 32 ∷ (decimal c.urgent_new ++ 32 ∷ decimal c.urgent_old)) h.new_count,
      count_again c.old_count (decimal c.urgent_new ++ 32 ∷ decimal c.urgent_old) h.old_count,
      count_again c.urgent_new (decimal c.urgent_old) h.urgent_new,
      up_to_again 4294967295 c.urgent_old h.urgent_old (omega arith),
    ) refl

abbrev mail_words_text : MailChange → List ℕ
mail_words_text w = w.mailbox ++ 32 ∷ (class_text w.class ++ 32 ∷ counts_text w.counts)

record AreMailWords (w : MailChange) : Type 0 where
  mailbox : IsUtf8 w.mailbox
  small : AreSmall w.counts

mail_words_take : (t : List ℕ) (w : MailChange) → mail_words t ≡ Some w → (t ≡ mail_words_text w) × AreMailWords w
unfolding mail_words
mail_words_take t w e =
    let last = λ (m : List ℕ) (k : Class) (c : Counts). (let l : Option MailChange = Some (record { mailbox = m; class = k; counts = c }) in l) in
    let p = bind_some (cut_at 32 t) (λ x. text_of x.0 >>= λ m. cut_at 32 x.1 >>= λ y. class_of y.0 >>= λ k. counts_of y.1 >>= λ c. last m k c) w e in
    let q = bind_some (text_of p.0.0) (λ m. cut_at 32 p.0.1 >>= λ y. class_of y.0 >>= λ k. counts_of y.1 >>= λ c. last m k c) w p.2 in
    let r = bind_some (cut_at 32 p.0.1) (λ y. class_of y.0 >>= λ k. counts_of y.1 >>= λ c. last q.0 k c) w q.2 in
    let s = bind_some (class_of r.0.0) (λ k. counts_of r.0.1 >>= λ c. last q.0 k c) w r.2 in
    let u = bind_some (counts_of r.0.1) (λ c. last q.0 s.0 c) w s.2 in
    let a = cut_takes 32 t p.0.0 p.0.1 p.1 in
    let b = text_taken p.0.0 q.0 q.1 in
    let c = cut_takes 32 p.0.1 r.0.0 r.0.1 r.1 in
    let d = class_takes r.0.0 s.0 s.1 in
    let f = counts_take r.0.1 u.0 u.1 in
    let made : MailChange = record { mailbox = q.0; class = s.0; counts = u.0 } in
    let tail : p.0.1 ≡ class_text s.0 ++ 32 ∷ counts_text u.0 = c.0 ∙ ap (λ (l : List ℕ). l ++ 32 ∷ r.0.1) d ∙ ap (λ (l : List ℕ). class_text s.0 ++ 32 ∷ l) f.0 in
    let whole : t ≡ mail_words_text made = a.0 ∙ ap (λ (l : List ℕ). l ++ 32 ∷ p.0.1) b.0 ∙ ap (λ (l : List ℕ). q.0 ++ 32 ∷ l) tail in
    subst (λ (x : MailChange). (t ≡ mail_words_text x) × AreMailWords x) (some_is made w u.2) (whole, record { mailbox = b.1; small = f.1 })

mail_words_again : (w : MailChange) → Lacks 32 w.mailbox → AreMailWords w → mail_words (mail_words_text w) ≡ Some w
unfolding mail_words
mail_words_again w lacks h =
    rw (
      cut_again 32 w.mailbox (class_text w.class ++ 32 ∷ counts_text w.counts) lacks,
      text_again w.mailbox h.mailbox,
      cut_again 32 (class_text w.class) (counts_text w.counts) (class_lacks_space w.class),
      class_again w.class,
      counts_again w.counts h.small,
    ) refl

mail_takes : (t : List ℕ) (m : MailChange) → mail_at t ≡ Some m → (codes "MAIL " ++ t ≡ mail_text m) × IsMail m
unfolding mail_at
mail_takes t m e =
    let p = bind_some (mail_words t) (λ w. mail_of w) m e in
    let w : MailChange = p.0 in
    let h = mail_words_take t w p.1 in
    let k = test_some (is_mail w) w m p.2 in
    let new_small : w.counts.new_count < 2 ^ 32 = omega (arith, h.1.small.new_count) in
    let old_small : w.counts.old_count < 2 ^ 32 = omega (arith, h.1.small.old_count) in
    subst (λ (x : MailChange). (codes "MAIL " ++ t ≡ mail_text x) × IsMail x) k.1
    (ap (λ (l : List ℕ). codes "MAIL " ++ l) h.0, record { mailbox = h.1.mailbox; new_count = new_small; old_count = old_small; allowed = allowed_mail w k.0 })

-- no byte of a word is a space or a control character
abbrev is_word_byte : ℕ → Bool
is_word_byte b = nat_lt 32 b && not (eqb b 127)

unbroken : (text : List ℕ) → is_word text ≡ true → list_all is_word_byte text ≡ true
unbroken text h = (and_both (nat_lt 0 (length text)) (is_unbroken text) h).1

mail_again : (m : MailChange) (t : List ℕ) → IsMail m → codes "MAIL " ++ t ≡ mail_text m → mail_at t ≡ Some m
unfolding mail_at
mail_again m t h whole =
    let small : AreSmall m.counts = record { new_count = omega (arith, h.new_count); old_count = omega (arith, h.old_count); urgent_new = omega (arith, h.new_count, h.allowed.urgent_new); urgent_old = omega (arith, h.old_count, h.allowed.urgent_old) } in
    let t-is : t ≡ mail_words_text m = behind t (mail_words_text m) whole in
    let words : mail_words t ≡ Some m = ap mail_words t-is ∙ mail_words_again m (all_lacks is_word_byte 32 refl m.mailbox (unbroken m.mailbox h.allowed.named)) (record { mailbox = h.mailbox; small = small }) in
    rw (words, mail_allowed m h.allowed) refl where
      behind : (x y : List ℕ) → codes "MAIL " ++ x ≡ codes "MAIL " ++ y → x ≡ y
      behind x y e = cc

-- ---- PROGRESS

abbrev progress_words_text : Progress → List ℕ
progress_words_text w = w.tag ++ 32 ∷ (decimal w.code ++ 32 ∷ w.reason)

record AreProgressWords (w : Progress) : Type 0 where
  tag : IsUtf8 w.tag
  code : w.code ≤ 65535
  reason : IsUtf8 w.reason

progress_words_take : (t : List ℕ) (w : Progress) → progress_words t ≡ Some w → (t ≡ progress_words_text w) × AreProgressWords w
unfolding progress_words
progress_words_take t w e =
    let last = λ (g : List ℕ) (n : ℕ) (r : List ℕ). (let l : Option Progress = Some (record { tag = g; code = n; reason = r }) in l) in
    let p = bind_some (cut_at 32 t) (λ x. text_of x.0 >>= λ g. cut_at 32 x.1 >>= λ y. plain_up_to 65535 y.0 >>= λ n. text_of y.1 >>= λ r. last g n r) w e in
    let q = bind_some (text_of p.0.0) (λ g. cut_at 32 p.0.1 >>= λ y. plain_up_to 65535 y.0 >>= λ n. text_of y.1 >>= λ r. last g n r) w p.2 in
    let r = bind_some (cut_at 32 p.0.1) (λ y. plain_up_to 65535 y.0 >>= λ n. text_of y.1 >>= λ z. last q.0 n z) w q.2 in
    let s = bind_some (plain_up_to 65535 r.0.0) (λ n. text_of r.0.1 >>= λ z. last q.0 n z) w r.2 in
    let u = bind_some (text_of r.0.1) (λ z. last q.0 s.0 z) w s.2 in
    let a = cut_takes 32 t p.0.0 p.0.1 p.1 in
    let b = text_taken p.0.0 q.0 q.1 in
    let c = cut_takes 32 p.0.1 r.0.0 r.0.1 r.1 in
    let d = up_to_takes 65535 r.0.0 s.0 s.1 in
    let f = text_taken r.0.1 u.0 u.1 in
    let made : Progress = record { tag = q.0; code = s.0; reason = u.0 } in
    let tail : p.0.1 ≡ decimal s.0 ++ 32 ∷ u.0 = c.0 ∙ ap (λ (l : List ℕ). l ++ 32 ∷ r.0.1) d.0 ∙ ap (λ (l : List ℕ). decimal s.0 ++ 32 ∷ l) f.0 in
    let whole : t ≡ progress_words_text made = a.0 ∙ ap (λ (l : List ℕ). l ++ 32 ∷ p.0.1) b.0 ∙ ap (λ (l : List ℕ). q.0 ++ 32 ∷ l) tail in
    subst (λ (x : Progress). (t ≡ progress_words_text x) × AreProgressWords x) (some_is made w u.2) (whole, record { tag = b.1; code = d.2; reason = f.1 })

progress_words_again : (w : Progress) → Lacks 32 w.tag → AreProgressWords w → progress_words (progress_words_text w) ≡ Some w
unfolding progress_words
progress_words_again w lacks h =
    rw (
      cut_again 32 w.tag (decimal w.code ++ 32 ∷ w.reason) lacks,
      text_again w.tag h.tag,
      cut_again 32 (decimal w.code) w.reason (decimal_lacks 32 w.code refl (omega (arith, h.code))),
      up_to_again 65535 w.code h.code (omega arith),
      text_again w.reason h.reason,
    ) refl

progress_takes : (t : List ℕ) (g : Progress) → progress_at t ≡ Some g → (codes "PROGRESS " ++ t ≡ progress_text g) × IsProgress g
unfolding progress_at
progress_takes t g e =
    let p = bind_some (progress_words t) (λ w. progress_of w) g e in
    let w : Progress = p.0 in
    let h = progress_words_take t w p.1 in
    let k = test_some (is_progress w) w g p.2 in
    subst (λ (x : Progress). (codes "PROGRESS " ++ t ≡ progress_text x) × IsProgress x) k.1
    (ap (λ (l : List ℕ). codes "PROGRESS " ++ l) h.0, record { tag = h.1.tag; reason = h.1.reason; allowed = allowed_progress w k.0 })

progress_again : (g : Progress) (t : List ℕ) → IsProgress g → codes "PROGRESS " ++ t ≡ progress_text g → progress_at t ≡ Some g
unfolding progress_at
progress_again g t h whole =
    let t-is : t ≡ progress_words_text g = behind t (progress_words_text g) whole in
    let words : progress_words t ≡ Some g = ap progress_words t-is ∙ progress_words_again g (all_lacks is_word_byte 32 refl g.tag (unbroken g.tag h.allowed.tagged)) (record { tag = h.tag; code = omega (arith, h.allowed.to_699); reason = h.reason }) in
    rw (words, progress_allowed g h.allowed) refl where
      behind : (x y : List ℕ) → codes "PROGRESS " ++ x ≡ codes "PROGRESS " ++ y → x ≡ y
      behind x y e = cc

-- ---- a line by its first word

pub record TakesLine (name rest : List ℕ) (c : Control) : Type 0 where
  pub whole : name ++ 32 ∷ rest ≡ control_text c
  pub is_control : IsControl c

pub or_takes : {A : Type 0} (b : Bool) (x other : Option A) (y : A) {P : Type 0} → cond b x other ≡ Some y → (b ≡ true → x ≡ Some y → P) → (b ≡ false → other ≡ Some y → P) → P
or_takes true x other y e f g = f refl e
or_takes false x other y e f g = g refl e

pub named_takes : (name rest : List ℕ) (c : Control) → named_at name rest ≡ Some c → TakesLine name rest c
unfolding named_at
named_takes name rest c e =
    let tick : Option Control = cond (bytes_eq name (codes "TICK")) (plain_number rest >>= λ n. Some (control.Tick n)) None in
    let others : Option Control = cond (bytes_eq name (codes "PROGRESS")) (progress_at rest >>= λ p. Some (control.Change (change.Step p))) tick in
    or_takes (bytes_eq name (codes "MAIL")) (mail_at rest >>= λ m. Some (control.Change (change.Mail m))) others c e of_mail
    (λ _ e2. or_takes (bytes_eq name (codes "PROGRESS")) (progress_at rest >>= λ p. Some (control.Change (change.Step p))) tick c e2 of_progress
    (λ _ e3. or_takes (bytes_eq name (codes "TICK")) (plain_number rest >>= λ n. Some (control.Tick n)) None c e3 of_tick (λ _ e4. absurd cc))) where
      of_mail : bytes_eq name (codes "MAIL") ≡ true → (mail_at rest >>= λ m. Some (control.Change (change.Mail m))) ≡ Some c → TakesLine name rest c
      of_mail same e =
          let p = bind_some (mail_at rest) (λ m. Some (control.Change (change.Mail m))) c e in
          let k = mail_takes rest p.0 p.1 in
          subst (TakesLine name rest) (some_is (control.Change (change.Mail p.0)) c p.2) (record { whole = ap (λ (l : List ℕ). l ++ 32 ∷ rest) (same_text name (codes "MAIL") same) ∙ k.0; is_control = k.1 })

      of_progress : bytes_eq name (codes "PROGRESS") ≡ true → (progress_at rest >>= λ p. Some (control.Change (change.Step p))) ≡ Some c → TakesLine name rest c
      of_progress same e =
          let p = bind_some (progress_at rest) (λ g. Some (control.Change (change.Step g))) c e in
          let k = progress_takes rest p.0 p.1 in
          subst (TakesLine name rest) (some_is (control.Change (change.Step p.0)) c p.2) (record { whole = ap (λ (l : List ℕ). l ++ 32 ∷ rest) (same_text name (codes "PROGRESS") same) ∙ k.0; is_control = k.1 })

      of_tick : bytes_eq name (codes "TICK") ≡ true → (plain_number rest >>= λ n. Some (control.Tick n)) ≡ Some c → TakesLine name rest c
      of_tick same e =
          let p = bind_some (plain_number rest) (λ n. Some (control.Tick n)) c e in
          let k = number_takes rest p.0 p.1 in
          subst (TakesLine name rest) (some_is (control.Tick p.0) c p.2) (record { whole = ap (λ (l : List ℕ). l ++ 32 ∷ rest) (same_text name (codes "TICK") same) ∙ ap (λ (l : List ℕ). codes "TICK " ++ l) k.0; is_control = k.1 })

-- the first word of a line that has one, and the rest
pub record HasWord (c : Control) : Type 0 where
  pub name : List ℕ
  pub rest : List ℕ
  pub whole : control_text c ≡ name ++ 32 ∷ rest
  pub lacks : Lacks 32 name
  pub not_close : bytes_eq (control_text c) (codes "CLOSE") ≡ false
  pub not_sip : bytes_eq name (codes "SIP") ≡ false
  pub named : named_at name rest ≡ Some c

mail_word : (m : MailChange) → IsMail m → HasWord (control.Change (change.Mail m))
unfolding named_at
mail_word m h =
    let rest : List ℕ = m.mailbox ++ 32 ∷ (class_text m.class ++ 32 ∷ (decimal m.counts.new_count ++ 32 ∷ (decimal m.counts.old_count ++ 32 ∷ (decimal m.counts.urgent_new ++ 32 ∷ decimal m.counts.urgent_old)))) in
    record { name = codes "MAIL"; rest = rest; whole = refl; lacks = refl; not_close = refl; not_sip = refl; named = rw (mail_again m rest h refl) refl }

progress_word : (g : Progress) → IsProgress g → HasWord (control.Change (change.Step g))
unfolding named_at
progress_word g h =
    let rest : List ℕ = g.tag ++ 32 ∷ (decimal g.code ++ 32 ∷ g.reason) in
    record { name = codes "PROGRESS"; rest = rest; whole = refl; lacks = refl; not_close = refl; not_sip = refl; named = rw (progress_again g rest h refl) refl }

pub change_word : (c : Change) → MayBeTold c → HasWord (control.Change c)
change_word (change.Mail m) h = mail_word m h
change_word (change.Begin tag) h = absurd h
change_word (change.Step g) h = progress_word g h
change_word (change.Forget tag) h = absurd h

pub tick_word : (n : ℕ) → n < 2 ^ 64 → HasWord (control.Tick n)
unfolding named_at
tick_word n small = record { name = codes "TICK"; rest = decimal n; whole = refl; lacks = refl; not_close = refl; not_sip = refl; named = rw (number_again n small) refl }

-- ---- no LF stands in a line

counts_lack : (m : MailChange) → IsMail m → Lacks 10 (decimal m.counts.new_count ++ 32 ∷ (decimal m.counts.old_count ++ 32 ∷ (decimal m.counts.urgent_new ++ 32 ∷ decimal m.counts.urgent_old)))
counts_lack m h =
    let number = λ (n : ℕ) (s : n < 2 ^ 64). decimal_lacks 10 n refl s in
    let u : Lacks 10 (decimal m.counts.urgent_new ++ 32 ∷ decimal m.counts.urgent_old) = lacks_append 10 (decimal m.counts.urgent_new) (32 ∷ decimal m.counts.urgent_old) (number m.counts.urgent_new (omega (arith, h.new_count, h.allowed.urgent_new))) (number m.counts.urgent_old (omega (arith, h.old_count, h.allowed.urgent_old))) in
    let o : Lacks 10 (decimal m.counts.old_count ++ 32 ∷ (decimal m.counts.urgent_new ++ 32 ∷ decimal m.counts.urgent_old)) = lacks_append 10 (decimal m.counts.old_count) (32 ∷ (decimal m.counts.urgent_new ++ 32 ∷ decimal m.counts.urgent_old)) (number m.counts.old_count (omega (arith, h.old_count))) u in
    lacks_append 10 (decimal m.counts.new_count) (32 ∷ (decimal m.counts.old_count ++ 32 ∷ (decimal m.counts.urgent_new ++ 32 ∷ decimal m.counts.urgent_old))) (number m.counts.new_count (omega (arith, h.new_count))) o

mail_lacks : (m : MailChange) → IsMail m → Lacks 10 (mail_text m)
mail_lacks m h =
    let tail : List ℕ = decimal m.counts.new_count ++ 32 ∷ (decimal m.counts.old_count ++ 32 ∷ (decimal m.counts.urgent_new ++ 32 ∷ decimal m.counts.urgent_old)) in
    let a : Lacks 10 (class_text m.class ++ 32 ∷ tail) = lacks_append 10 (class_text m.class) (32 ∷ tail) (class_lacks_lf m.class) (counts_lack m h) in
    let b : Lacks 10 (m.mailbox ++ 32 ∷ (class_text m.class ++ 32 ∷ tail)) = lacks_append 10 m.mailbox (32 ∷ (class_text m.class ++ 32 ∷ tail)) (all_lacks is_word_byte 10 refl m.mailbox (unbroken m.mailbox h.allowed.named)) a in
    lacks_append 10 (codes "MAIL ") (m.mailbox ++ 32 ∷ (class_text m.class ++ 32 ∷ tail)) refl b

progress_lacks : (g : Progress) → IsProgress g → Lacks 10 (progress_text g)
progress_lacks g h =
    let a : Lacks 10 (decimal g.code ++ 32 ∷ g.reason) = lacks_append 10 (decimal g.code) (32 ∷ g.reason) (decimal_lacks 10 g.code refl (omega (arith, h.allowed.to_699))) (all_lacks (λ b. not (is_control b)) 10 refl g.reason h.allowed.plain) in
    let b : Lacks 10 (g.tag ++ 32 ∷ (decimal g.code ++ 32 ∷ g.reason)) = lacks_append 10 g.tag (32 ∷ (decimal g.code ++ 32 ∷ g.reason)) (all_lacks is_word_byte 10 refl g.tag (unbroken g.tag h.allowed.tagged)) a in
    lacks_append 10 (codes "PROGRESS ") (g.tag ++ 32 ∷ (decimal g.code ++ 32 ∷ g.reason)) refl b

pub line_lacks : (c : Control) → IsControl c → Lacks 10 (control_text c)
line_lacks (control.Change (change.Mail m)) h = mail_lacks m h
line_lacks (control.Change (change.Begin tag)) h = absurd h
line_lacks (control.Change (change.Step g)) h = progress_lacks g h
line_lacks (control.Change (change.Forget tag)) h = absurd h
line_lacks (control.Tick n) h = lacks_append 10 (codes "TICK ") (decimal n) refl (decimal_lacks 10 n refl h)
line_lacks control.Close h = refl
