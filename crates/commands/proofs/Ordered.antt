-- Mailboxes that lines made, from one run to the next: what the journal tells of them, and their order.
use Rattle.std.proofs.Common.{◌≡◌, ◌∙◌, ℕ, ◌+◌, ◌<◌, Bool, true, false, not, cond, ◌&&◌, ◌||◌, List, [], ◌∷◌, ◌++◌, length, take, get_or, map, filter, refl, sym, ap}
use Rattle.std.specs.Str.{bytes_eq}
use Rattle.std.specs.List.{flat_map}
use Rattle.std.proofs.lemmas.List.{append-nil}
use Rattle.std.proofs.lemmas.List.Concat.{flat_map-append}
use Rattle.std.proofs.lemmas.List.Folds.{list_any-append}
use Rattle.std.proofs.lemmas.Slice.Eq.{bytes_eq-Decides}
use Rattle.control_lines.specs.Told.{is_held}
use Rattle.package.specs.declared.change.Change.{Change}
use Rattle.package.specs.declared.change.Change.TheVariants as change
use Rattle.package.specs.Values.{MailChange}
use Rattle.notifier_model.specs.declared.event.Event.{Event}
use Rattle.notifier_model.specs.declared.event.Event.TheVariants as event
use Rattle.journal.specs.declared.file.Account.{Account}
use Rattle.resumption.specs.Accounts.{lines_of}
use Rattle.resumption.specs.Told.{mails}
use Rattle.resumption.proofs.Lists.{behind_none, one_more}
use Rattle.resumption.proofs.Telling.{any_once}
use Rattle.plans.specs.Plans.{each_once}
use Rattle.commands.specs.Runs.{mail_told, told_since, in_former_order, NobodyIsLeftOutLaw}

-- ---- what lines told

-- what the items give together, with one more of them
pub flat_more : {X Y : Type 0} (f : X → List Y) (xs : List X) (i : ℕ) (x : X) (before so_far after : List Y) → i < length xs → x ≡ get_or xs i x
    → so_far ≡ before ++ flat_map f (take i xs) → after ≡ so_far ++ f x → after ≡ before ++ flat_map f (take (i + 1) xs)
flat_more {X} {Y} f xs i x before so_far after below is held new =
    one_more (flat_map f) (flat_map-append f) xs i x before so_far after below is held (new ∙ ap (λ (l : List Y). so_far ++ l) (sym (append-nil (f x))))

lines_told : (lines : List MailChange) → flat_map mail_told (map (λ m. event.Mail m) lines) ≡ map (λ m. change.Mail m) lines
lines_told [] = refl
lines_told (m ∷ lines) = ap (λ (l : List Change). change.Mail m ∷ l) (lines_told lines)

-- what a worker handled, and then what waits for it
pub since : (a : Account) → flat_map mail_told a.events ++ map (λ m. change.Mail m) a.lines ≡ told_since a
since a = ap (λ (l : List Change). flat_map mail_told a.events ++ l) (sym (lines_told a.lines)) ∙ sym (flat_map-append mail_told a.events (lines_of a))

pub all_since : (a : Account) (none handled all : List Change) (events : List Event) (lines : List MailChange) → none ≡ [] → events ≡ a.events → lines ≡ a.lines
    → handled ≡ none ++ flat_map mail_told events → all ≡ handled ++ map (λ m. change.Mail m) lines → all ≡ told_since a
all_since a none handled all events lines is_none its_events its_lines first then =
    then
    ∙ ap (λ (l : List Change). l ++ map (λ m. change.Mail m) lines) (behind_none none (flat_map mail_told events) handled is_none first)
    ∙ ap (λ (l : List Event). flat_map mail_told l ++ map (λ m. change.Mail m) lines) its_events
    ∙ ap (λ (l : List MailChange). flat_map mail_told a.events ++ map (λ m. change.Mail m) l) its_lines
    ∙ since a

-- what it was told before its book, and since
pub all_told : (a : Account) (none booked all later : List Change) → none ≡ [] → booked ≡ none ++ mails a.book.told.mail → later ≡ told_since a
    → all ≡ booked ++ later → all ≡ mails a.book.told.mail ++ told_since a
all_told a none booked all later is_none first then both =
    both
    ∙ ap (λ (l : List Change). l ++ later) (behind_none none (mails a.book.told.mail) booked is_none first)
    ∙ ap (λ (l : List Change). mails a.book.told.mail ++ l) then

-- ---- their order

same_filter : (p q : List ℕ → Bool) → ((x : List ℕ) → p x ≡ q x) → (xs : List (List ℕ)) → filter p xs ≡ filter q xs
same_filter p q same [] = refl
same_filter p q same (x ∷ xs) = ap (λ b. cond b (x ∷ filter p xs) (filter p xs)) (same x) ∙ ap (λ (l : List (List ℕ)). cond (q x) (x ∷ l) l) (same_filter p q same xs)

-- by the names of a set, which has each once
pub ordered : (former names : List (List ℕ)) → filter (is_held (each_once names)) former ++ filter (λ name. not (is_held (each_once former) name)) names ≡ in_former_order former names
ordered former names =
    ap (λ (l : List (List ℕ)). l ++ filter (λ name. not (is_held (each_once former) name)) names)
    (same_filter (is_held (each_once names)) (is_held names) (λ name. any_once name names) former)
    ∙ ap (λ (l : List (List ℕ)). filter (is_held names) former ++ l)
    (same_filter (λ name. not (is_held (each_once former) name)) (λ name. not (is_held former name)) (λ name. ap not (any_once name former)) names)

-- ---- nobody is left out

and_false : (b : Bool) → (b && false) ≡ false
and_false true = refl
and_false false = refl

either : (former told : Bool) → ((former && told) || (told && not former)) ≡ told
either true true = refl
either true false = refl
either false true = refl
either false false = refl

held_filter : (p : List ℕ → Bool) (names : List (List ℕ)) (name : List ℕ) → is_held (filter p names) name ≡ (is_held names name && p name)
held_filter p [] name = refl
held_filter p (x ∷ names) name = step (p x) (bytes_eq name x) (held_filter p names name) refl refl where
  same : bytes_eq name x ≡ true → p name ≡ p x
  same is = let equal : name ≡ x = (bytes_eq-Decides name x).0 is in ap p equal

  step : (b e : Bool) → is_held (filter p names) name ≡ (is_held names name && p name) → p x ≡ b → bytes_eq name x ≡ e
      → is_held (cond b (x ∷ filter p names) (filter p names)) name ≡ ((e || is_held names name) && p name)
  step true true rest passes is = ap (λ c. c || is_held (filter p names) name) is ∙ sym (same is ∙ passes)
  step true false rest passes is = ap (λ c. c || is_held (filter p names) name) is ∙ rest
  step false true rest fails is =
      let none : p name ≡ false = same is ∙ fails in rest ∙ ap (λ c. is_held names name && c) none ∙ and_false (is_held names name) ∙ sym none
  step false false rest fails is = rest

pub nobody_is_left_out : NobodyIsLeftOutLaw
nobody_is_left_out former names name =
    let old = λ (n : List ℕ). is_held names n in let new = λ (n : List ℕ). not (is_held former n) in
    list_any-append (λ held. bytes_eq name held) (filter old former) (filter new names)
    ∙ ap (λ b. b || is_held (filter new names) name) (held_filter old former name)
    ∙ ap (λ b. (is_held former name && is_held names name) || b) (held_filter new names name)
    ∙ either (is_held former name) (is_held names name)
