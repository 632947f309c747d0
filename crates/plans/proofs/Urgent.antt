-- Lines whose last two words are counts.
use Rattle.std.proofs.Common.{◌≡◌, ◌≢◌, ◌<◌, ◌≤◌, ◌^◌, ◌⊎◌, inl, ℕ, true, false, List, [], ◌∷◌, ◌++◌, Some, None, Option, Result, Ok, Err, MatchOption, refl, sym, ap, ap₂, ◌∙◌, subst, decimal, append_assoc, arith}
use Rattle.std.specs.List.{list_all}
use Rattle.std.specs.Prelude.{codes}
use Rattle.std.proofs.lemmas.Bool.{ne_eqb}
use Rattle.std.proofs.lemmas.Fmt.{decimal_digit, decimal_injective}
use Rattle.std.proofs.lemmas.List.{append_cancel_right}
use Rattle.std.proofs.lemmas.List.Elements.{All-head, All-tail}
use Rattle.sip_text.specs.Reading.{is_other, plain_up_to}
use Rattle.sip_text.proofs.Pieces.{and_both}
use Rattle.sip_text.proofs.Cuts.{Lacks}
use Rattle.sip_text.proofs.Addresses.{decimal_lacks}
use Rattle.sip_text.proofs.PlainNumbers.{up_to_takes, up_to_again}
use Rattle.package.specs.Values.{MailChange}
use Rattle.package.specs.declared.change.Change.TheVariants as change
use Rattle.scripts.specs.declared.script.Control.TheVariants as control
use Rattle.scripts.specs.declared.script.Control.{Control}
use Rattle.scripts.specs.declared.error.ScriptError.{ScriptError}
use Rattle.scripts.specs.declared.error.ScriptError.TheVariants as error
use Rattle.scripts.specs.Script.{IsMail, IsControlLine, Answers, class_text, mail_text}
use Rattle.plans.specs.State.{HasNoSpace, EndsInCounts, IsCalm, IsTooUrgent, calmed}

-- ---- the last space

no_space : (t : List ℕ) → HasNoSpace t → Lacks 32 t
no_space [] all = refl
no_space (x ∷ xs) all = rw (ne_eqb x 32 (All-head (λ b. b ≢ 32) x xs all)) (no_space xs (All-tail (λ b. b ≢ 32) x xs all))

-- what has a space behind some front doesn't lack one
lacks_none : (front back : List ℕ) → Lacks 32 (front ++ 32 ∷ back) → ⊥
lacks_none [] back all = let clash : false ≡ true = all in absurd cc
lacks_none (x ∷ front) back all = lacks_none front back (and_both (is_other 32 x) (list_all (is_other 32) (front ++ 32 ∷ back)) all).1

one_end : (a b c d : List ℕ) → a ++ 32 ∷ b ≡ c ++ 32 ∷ d → Lacks 32 b → Lacks 32 d → (a ≡ c) × (b ≡ d)
one_end [] b [] d same first second = (refl, cc)
one_end [] b (y ∷ c) d same first second =
    let tail : b ≡ c ++ 32 ∷ d = cc in absurd (lacks_none c d (rw tail at first))
one_end (x ∷ a) b [] d same first second =
    let tail : a ++ 32 ∷ b ≡ d = cc in absurd (lacks_none a b (rw (← tail) at second))
one_end (x ∷ a) b (y ∷ c) d same first second =
    let head : x ≡ y = cc in
    let tail : a ++ 32 ∷ b ≡ c ++ 32 ∷ d = cc in
    let rest = one_end a b c d tail first second in
    (rw (head, rest.0) refl, rest.1)

-- ---- the last two words

-- a text with a last space ends in two counts
record Cut (line front : List ℕ) (new old : ℕ) (rest last : List ℕ) : Type 0 where
  pub whole : rest ≡ front ++ 32 ∷ decimal new
  pub count : last ≡ decimal old

cut_counts : (line rest last front : List ℕ) (new old : ℕ) → line ≡ rest ++ 32 ∷ last → HasNoSpace last → EndsInCounts line front new old → Cut line front new old rest last
cut_counts line rest last front new old cut spaceless ends =
    let few : old < 2 ^ 64 = omega (arith, ends.few_old) in
    let same : rest ++ 32 ∷ last ≡ (front ++ 32 ∷ decimal new) ++ 32 ∷ decimal old = sym cut ∙ (ends.text ∙ sym (append_assoc front (32 ∷ decimal new) (32 ∷ decimal old))) in
    let parts = one_end rest last (front ++ 32 ∷ decimal new) (decimal old) same (no_space last spaceless) (decimal_lacks 32 old refl few) in
    record { whole = parts.0; count = parts.1 }

pub no_cut : (line front : List ℕ) (new old : ℕ) → HasNoSpace line → ¬ (EndsInCounts line front new old)
no_cut line front new old spaceless ends = lacks_none front (decimal new ++ 32 ∷ decimal old) (rw ends.text at (no_space line spaceless))

pub no_second_cut : (line rest last front : List ℕ) (new old : ℕ) → line ≡ rest ++ 32 ∷ last → HasNoSpace last → HasNoSpace rest → ¬ (EndsInCounts line front new old)
no_second_cut line rest last front new old cut spaceless none ends =
    let parts = cut_counts line rest last front new old cut spaceless ends in
    lacks_none front (decimal new) (rw parts.whole at (no_space rest none))

-- ---- the counts

-- the words that stand behind the last two spaces
pub record LastWords (line front first second : List ℕ) : Type 0 where
  pub rest : List ℕ
  pub cut : line ≡ rest ++ 32 ∷ second
  pub again : rest ≡ front ++ 32 ∷ first
  pub second_spaceless : HasNoSpace second
  pub first_spaceless : HasNoSpace first

-- they are the counts in which the line ends, if it ends in counts
record Counted (front first second other : List ℕ) (new old : ℕ) : Type 0 where
  pub front_is : front ≡ other
  pub first_is : first ≡ decimal new
  pub second_is : second ≡ decimal old

counted : (line front first second other : List ℕ) (new old : ℕ) → LastWords line front first second → EndsInCounts line other new old → Counted front first second other new old
counted line front first second other new old words ends =
    let parts = cut_counts line words.rest second other new old words.cut words.second_spaceless ends in
    let few : new < 2 ^ 64 = omega (arith, ends.few_new) in
    let again = one_end front first other (decimal new) (sym words.again ∙ parts.whole) (no_space first words.first_spaceless) (decimal_lacks 32 new refl few) in
    record { front_is = again.0; first_is = again.1; second_is = parts.count }

uncounted : (word : List ℕ) (n : ℕ) → n < 2 ^ 32 → word ≡ decimal n → plain_up_to 4294967295 word ≡ None → ⊥
uncounted word n few is none =
    let le : n ≤ 4294967295 = omega (arith, few) in
    let found = up_to_again 4294967295 n le (omega arith) in
    let clash : Some n ≡ None = sym found ∙ (ap (plain_up_to 4294967295) (sym is) ∙ none) in absurd cc

pub no_first_count : (line front first second other : List ℕ) (new old : ℕ) → LastWords line front first second → plain_up_to 4294967295 first ≡ None → ¬ (EndsInCounts line other new old)
no_first_count line front first second other new old words none ends =
    uncounted first new ends.few_new (counted line front first second other new old words ends).first_is none

pub no_second_count : (line front first second other : List ℕ) (new old : ℕ) → LastWords line front first second → plain_up_to 4294967295 second ≡ None → ¬ (EndsInCounts line other new old)
no_second_count line front first second other new old words none ends =
    uncounted second old ends.few_old (counted line front first second other new old words ends).second_is none

pub ends_so : (line front first second : List ℕ) (new old : ℕ) → LastWords line front first second → plain_up_to 4294967295 first ≡ Some new → plain_up_to 4294967295 second ≡ Some old → EndsInCounts line front new old
ends_so line front first second new old words first_is second_is =
    let a = up_to_takes 4294967295 first new first_is in
    let b = up_to_takes 4294967295 second old second_is in
    record {
      text = words.cut ∙ rw (words.again, a.0, b.0) (append_assoc front (32 ∷ decimal new) (32 ∷ decimal old));
      few_new = omega (arith, a.2);
      few_old = omega (arith, b.2);
    }

-- a line ends in two counts in one way
record OneEnding (front other : List ℕ) (new old new' old' : ℕ) : Type 0 where
  pub front_is : front ≡ other
  pub new_is : new ≡ new'
  pub old_is : old ≡ old'

one_ending : (line front other : List ℕ) (new old new' old' : ℕ) → EndsInCounts line front new old → EndsInCounts line other new' old' → OneEnding front other new old new' old'
one_ending line front other new old new' old' first second =
    let whole = λ (f : List ℕ) (n o : ℕ) (e : EndsInCounts line f n o). e.text ∙ sym (append_assoc f (32 ∷ decimal n) (32 ∷ decimal o)) in
    let few = λ (n : ℕ) (l : n < 2 ^ 64). decimal_lacks 32 n refl l in
    let last = one_end (front ++ 32 ∷ decimal new) (decimal old) (other ++ 32 ∷ decimal new') (decimal old') (sym (whole front new old first) ∙ whole other new' old' second)
    (few old (omega (arith, first.few_old))) (few old' (omega (arith, second.few_old))) in
    let before = one_end front (decimal new) other (decimal new') last.0 (few new (omega (arith, first.few_new))) (few new' (omega (arith, second.few_new))) in
    record { front_is = before.0; new_is = decimal_injective new new' (omega (arith, first.few_new)) (omega (arith, second.few_new)) before.1; old_is = decimal_injective old old' (omega (arith, first.few_old)) (omega (arith, second.few_old)) last.1 }

-- ---- the mail

-- the two last counts of a MAIL line, and what stands before them
abbrev ends : ℕ → ℕ → List ℕ
ends new old = 32 ∷ (decimal new ++ 32 ∷ decimal old)

abbrev begins : MailChange → List ℕ
begins m = codes "MAIL " ++ (m.mailbox ++ (codes " " ++ (class_text m.class ++ (codes " " ++ (decimal m.counts.new_count ++ (codes " " ++ decimal m.counts.old_count))))))

zeros : ends 0 0 ≡ codes " 0 0"
zeros =
    let zero : decimal 0 ≡ 48 ∷ [] = decimal_digit 0 (omega arith) in
    rw zero refl

splits : (m : MailChange) → begins m ++ ends m.counts.urgent_new m.counts.urgent_old ≡ mail_text m
splits m = simp append_assoc refl

-- the same mail, of which so many are urgent
abbrev urgent : ℕ → ℕ → MailChange → MailChange
urgent new old m = record m { counts = record m.counts { urgent_new = new; urgent_old = old } }

calm_already : (m : MailChange) → m.counts.urgent_new ≡ 0 → m.counts.urgent_old ≡ 0 → m ≡ calmed m
calm_already m none never = ap₂ (λ new old. urgent new old m) none never

-- a line that is too urgent ends in its urgent counts, and what stands before them begins a calm one
too_urgent_ends : (line : List ℕ) (is : IsTooUrgent line) → EndsInCounts line (begins is.mail) is.mail.counts.urgent_new is.mail.counts.urgent_old
too_urgent_ends line is = record { text = is.text ∙ sym (splits is.mail); few_new = is.few_new; few_old = is.few_old }

too_urgent_begins : (line : List ℕ) (is : IsTooUrgent line) → IsCalm (begins is.mail) (calmed is.mail)
too_urgent_begins line is = record { text = sym (splits (calmed is.mail)) ∙ ap (λ l. begins is.mail ++ l) zeros; told = is.calm; no_new = refl; no_old = refl }

is_line : (front : List ℕ) (m : MailChange) → IsCalm front m → IsControlLine (front ++ codes " 0 0") (control.Change (change.Mail m))
is_line front m calm = record { is_control = calm.told; whole = inl (sym calm.text) }

pub too_urgent : (line front : List ℕ) (new old : ℕ) (m : MailChange) → EndsInCounts line front new old → IsCalm front m
    → (m.counts.new_count < new) ⊎ (m.counts.old_count < old) → IsTooUrgent line
too_urgent line front new old m is calm more =
    let none = calm.no_new in let never = calm.no_old in let parts = splits m ∙ calm.text in
    let whole : begins m ++ ends 0 0 ≡ front ++ codes " 0 0" = rw (none, never) at parts in
    let same : begins m ≡ front = append_cancel_right (begins m) front (codes " 0 0") (ap (λ l. begins m ++ l) (sym zeros) ∙ whole) in
    record {
      mail = urgent new old m;
      text = is.text ∙ (ap (λ l. l ++ ends new old) (sym same) ∙ splits (urgent new old m));
      calm = subst IsMail (calm_already m none never) calm.told;
      few_new = is.few_new;
      few_old = is.few_old;
      more = more;
    }

pub more_urgent : (line front : List ℕ) (new old : ℕ) (m : MailChange) → EndsInCounts line front new old → ((other : MailChange) → IsCalm front other → Some m ≡ Some other) → IsTooUrgent line
    → (m.counts.new_count < new) ⊎ (m.counts.old_count < old)
more_urgent line front new old m ends only is =
    let parts = one_ending line front (begins is.mail) new old is.mail.counts.urgent_new is.mail.counts.urgent_old ends (too_urgent_ends line is) in
    let both = only (calmed is.mail) (subst (λ f. IsCalm f (calmed is.mail)) (sym parts.front_is) (too_urgent_begins line is)) in
    let same : m ≡ calmed is.mail = cc in
    rw (same, parts.new_is, parts.old_is) is.more

pub not_counted : (line : List ℕ) → ((front : List ℕ) (new old : ℕ) → ¬ (EndsInCounts line front new old)) → ¬ (IsTooUrgent line)
not_counted line none is = none (begins is.mail) is.mail.counts.urgent_new is.mail.counts.urgent_old (too_urgent_ends line is)

pub not_calm : (line front : List ℕ) (new old : ℕ) → EndsInCounts line front new old → ((other : MailChange) → IsCalm front other → None ≡ Some other) → ¬ (IsTooUrgent line)
not_calm line front new old ends only is =
    let parts = one_ending line front (begins is.mail) new old is.mail.counts.urgent_new is.mail.counts.urgent_old ends (too_urgent_ends line is) in
    let clash = only (calmed is.mail) (subst (λ f. IsCalm f (calmed is.mail)) (sym parts.front_is) (too_urgent_begins line is)) in absurd cc

-- what is calm is read, and nothing else
pub read_again : (front : List ℕ) (mail : MailChange) (answer : Result Control ScriptError) → ((c : Control) → IsControlLine (front ++ codes " 0 0") c → Answers (λ x. x) answer c) → IsCalm front mail
    → Answers (λ x. x) answer (control.Change (change.Mail mail))
read_again front mail answer only calm = only (control.Change (change.Mail mail)) (is_line front mail calm)

-- what the line tells, with its zeros, is the only calm mail
pub same_mail : (front line : List ℕ) (m other : MailChange) (answer : Result Control ScriptError) → line ≡ front ++ codes " 0 0" → answer ≡ Ok (control.Change (change.Mail m))
    → ((c : Control) → IsControlLine line c → Answers (λ x. x) answer c) → IsCalm front other → m ≡ other
same_mail front line m other answer is told only calm =
    let read = rw told at (read_again front other answer (rw is at only) calm) in cc

pub calm_only : (front : List ℕ) (m other : MailChange) (r : Option MailChange)
    → MatchOption r (¬ ((m.counts.urgent_new ≡ 0) × (m.counts.urgent_old ≡ 0))) (λ calm. (calm ≡ m) × (m.counts.urgent_new ≡ 0) × (m.counts.urgent_old ≡ 0))
    → IsCalm front other → m ≡ other → r ≡ Some other
calm_only front m other None none calm same = absurd (none (rw same (calm.no_new, calm.no_old)))
calm_only front m other (Some x) is calm same = ap Some (is.0 ∙ same)

pub never_bad : (front line : List ℕ) (mail : MailChange) (answer : Result Control ScriptError) → line ≡ front ++ codes " 0 0" → answer ≡ Err error.BadScript
    → ((c : Control) → IsControlLine line c → Answers (λ x. x) answer c) → ¬ (IsCalm front mail)
never_bad front line mail answer is told only calm = rw told at (read_again front mail answer (rw is at only) calm)
