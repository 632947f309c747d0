-- The option that a word is: what is found is written so, and what is written is found.
use Rattle.std.proofs.Common.{◌≡◌, ◌≢◌, ℕ, Bool, true, false, cond, List, [], ◌∷◌, ◌++◌, ◌<◌, length, get_or, take, drop, Option, Some, None, refl, sym, ap, ◌∙◌, eqb, arith, ◌+◌, add-zero, length-append}
use Rattle.std.specs.Prelude.{bytes_eq, not}
use Rattle.std.specs.List.{position_or_len, before_first, after_first}
use Rattle.std.proofs.lemmas.Bool.{eqb-false, eqb-true, eq-eqb, ne_eqb}
use Rattle.std.proofs.lemmas.List.Sums.{split_at_first, passes_at_first, prefix_len-le-length}
use Rattle.std.proofs.lemmas.List.Folds.{prefix_len-append}
use Rattle.std.proofs.Math.Seq.{take-append_seam, drop-append-add}
use Rattle.std.proofs.lemmas.Slice.Eq.{bytes_eq-Decides}
use Rattle.sip_text.proofs.Pieces.{some_is}
use Rattle.arguments.specs.declared.flag.AddressFlag.{AddressFlag}
use Rattle.arguments.specs.declared.flag.AddressFlag.TheVariants as address
use Rattle.arguments.specs.declared.flag.Bound.{Bound}
use Rattle.arguments.specs.declared.flag.Bound.TheVariants as bound
use Rattle.arguments.specs.declared.flag.Flag.{Flag}
use Rattle.arguments.specs.declared.flag.Flag.TheVariants as flag
use Rattle.arguments.specs.declared.switch.Switch.{Switch}
use Rattle.arguments.specs.declared.switch.Switch.TheVariants as switch
use Rattle.arguments.specs.Flags.{address_flag_text, bound_text, flag_text, switch_text}
use Rattle.arguments.specs.Settings.{joined}
use Rattle.arguments.specs.Reading.{find_text, address_flags, times, counts, sizes, address_flag_of, time_of, count_of, size_of, number_of, or_else, bound_of, number_flag, specials, special_of, other_of, address_or, flag_named, is_equals, with_value, joined_of, switches, switch_of}

pub same_text : (a b : List ℕ) → bytes_eq a b ≡ true → a ≡ b
same_text a b e = (bytes_eq-Decides a b).0 e

found_text : {X : Type 0} (text : X → List ℕ) (xs : List X) (word : List ℕ) (x : X) → find_text text xs word ≡ Some x → word ≡ text x
found_text text [] word x e = absurd cc
found_text text (y ∷ ys) word x e = step (bytes_eq word (text y)) refl (found_text text ys word x) e where
  step : (b : Bool) → bytes_eq word (text y) ≡ b → (find_text text ys word ≡ Some x → word ≡ text x) → cond b (Some y) (find_text text ys word) ≡ Some x → word ≡ text x
  step true same again k = same_text word (text y) same ∙ ap text (some_is y x k)
  step false other again k = again k

address_flag_takes : (word : List ℕ) (p : AddressFlag) → address_flag_of word ≡ Some p → word ≡ address_flag_text p
unfolding address_flag_of
address_flag_takes word p e = found_text address_flag_text address_flags word p e

time_takes : (word : List ℕ) (b : Bound) → time_of word ≡ Some b → word ≡ bound_text b
unfolding time_of
time_takes word b e = found_text bound_text times word b e

count_takes : (word : List ℕ) (b : Bound) → count_of word ≡ Some b → word ≡ bound_text b
unfolding count_of
count_takes word b e = found_text bound_text counts word b e

size_takes : (word : List ℕ) (b : Bound) → size_of word ≡ Some b → word ≡ bound_text b
unfolding size_of
size_takes word b e = found_text bound_text sizes word b e

number_takes : (word : List ℕ) (b : Bound) → number_of word ≡ Some b → word ≡ bound_text b
unfolding number_of
number_takes word b e = step (count_of word) refl e where
  step : (o : Option Bound) → count_of word ≡ o → or_else o (size_of word) ≡ Some b → word ≡ bound_text b
  step (Some t) is k = count_takes word t is ∙ ap bound_text (some_is t b k)
  step None is k = size_takes word b k

bound_takes : (word : List ℕ) (b : Bound) → bound_of word ≡ Some b → word ≡ bound_text b
unfolding bound_of
bound_takes word b e = step (time_of word) refl e where
  step : (o : Option Bound) → time_of word ≡ o → or_else o (number_of word) ≡ Some b → word ≡ bound_text b
  step (Some t) is k = time_takes word t is ∙ ap bound_text (some_is t b k)
  step None is k = number_takes word b k

special_takes : (word : List ℕ) (f : Flag) → special_of word ≡ Some f → word ≡ flag_text f
unfolding special_of
special_takes word f e = found_text flag_text specials word f e

other_takes : (word : List ℕ) (f : Flag) → other_of word ≡ Some f → word ≡ flag_text f
unfolding other_of
other_takes word f e = first (special_of word) refl e where
  second : (o : Option Bound) → bound_of word ≡ o → number_flag o ≡ Some f → word ≡ flag_text f
  second (Some b) is k = bound_takes word b is ∙ ap flag_text (some_is (flag.Number b) f k)
  second None is k = absurd cc

  first : (o : Option Flag) → special_of word ≡ o → or_else o (number_flag (bound_of word)) ≡ Some f → word ≡ flag_text f
  first (Some g) is k = special_takes word g is ∙ ap flag_text (some_is g f k)
  first None is k = second (bound_of word) refl k

pub flag_takes : (word : List ℕ) (f : Flag) → flag_named word ≡ Some f → word ≡ flag_text f
unfolding flag_named
flag_takes word f e = step (address_flag_of word) refl e where
  step : (o : Option AddressFlag) → address_flag_of word ≡ o → address_or o (other_of word) ≡ Some f → word ≡ flag_text f
  step (Some p) is k = address_flag_takes word p is ∙ ap flag_text (some_is (flag.Address p) f k)
  step None is k = other_takes word f k

pub flag_again : (f : Flag) → flag_named (flag_text f) ≡ Some f
unfolding flag_named address_flag_of other_of special_of bound_of time_of number_of count_of size_of
flag_again (flag.Address address.Listen) = refl
flag_again (flag.Address address.Contact) = refl
flag_again (flag.Address address.Control) = refl
flag_again (flag.Address address.Feed) = refl
flag_again (flag.Number bound.Workers) = refl
flag_again (flag.Number bound.MinTime) = refl
flag_again (flag.Number bound.MaxTime) = refl
flag_again (flag.Number bound.DefaultTime) = refl
flag_again (flag.Number bound.ReferTime) = refl
flag_again (flag.Number bound.MaxCseq) = refl
flag_again (flag.Number bound.Table) = refl
flag_again (flag.Number bound.Serials) = refl
flag_again (flag.Number bound.Kept) = refl
flag_again (flag.Number bound.Inbox) = refl
flag_again (flag.Number bound.Outbox) = refl
flag_again (flag.Number bound.Repeats) = refl
flag_again (flag.Number bound.Open) = refl
flag_again (flag.Number bound.Linger) = refl
flag_again (flag.Number bound.Outage) = refl
flag_again (flag.Number bound.MaxDatagram) = refl
flag_again (flag.Number bound.ReceiveBuffer) = refl
flag_again (flag.Number bound.NonceTime) = refl
flag_again (flag.Number bound.PerSource) = refl
flag_again (flag.Number bound.JournalBytes) = refl
flag_again (flag.Number bound.MaxTexts) = refl
flag_again (flag.Number bound.MaxMailboxes) = refl
flag_again flag.MailboxFile = refl
flag_again flag.StateFile = refl
flag_again flag.JournalFolder = refl
flag_again flag.Sync = refl
flag_again flag.PasswordFile = refl
flag_again flag.Watch = refl
flag_again flag.Rate = refl
flag_again flag.Guesses = refl
flag_again flag.Allow = refl
flag_again flag.ControlAllow = refl
flag_again flag.FeedFrom = refl
flag_again flag.Seed = refl

-- a word that is no option is none of these texts
pub no_flag : (word : List ℕ) → flag_named word ≡ None → (f : Flag) → word ≢ flag_text f
no_flag word none f same = absurd (clash (sym none ∙ ap flag_named same ∙ flag_again f)) where
  clash : ◌≡◌ {A = Option Flag} None (Some f) → ⊥
  clash e = absurd cc

-- ---- an option and its value in one word

-- a text without `=` is no option with its value
not_joined : (text : List ℕ) → position_or_len is_equals text ≡ length text → joined_of text ≡ None
unfolding joined_of
not_joined text none = ap (λ b. cond b None (with_value (flag_named (before_first is_equals text)) (after_first is_equals text))) (eq-eqb (position_or_len is_equals text) (length text) none)

-- and with `=` and a value behind it, it is, where the text is an option
joined_at : (text value : List ℕ) → position_or_len is_equals text ≡ length text → joined_of (joined text value) ≡ with_value (flag_named text) value
unfolding joined_of
joined_at text value none =
    let whole = joined text value in
    let place : position_or_len is_equals whole ≡ length text =
    prefix_len-append (λ b. not (is_equals b)) text (61 ∷ value) ∙ ap (λ b. cond b (length text + 0) (position_or_len is_equals text)) (eq-eqb (position_or_len is_equals text) (length text) none) ∙ add-zero (length text) in
    let other : eqb (position_or_len is_equals whole) (length whole) ≡ false = ne_eqb (position_or_len is_equals whole) (length whole) (λ e. omega (arith, e, place, length-append text (61 ∷ value))) in
    let before : before_first is_equals whole ≡ text = ap (λ n. take n whole) place ∙ take-append_seam text (61 ∷ value) in
    let after : after_first is_equals whole ≡ value =
    ap (λ n. drop (n + 1) whole) place ∙ drop-append-add text (61 ∷ value) 1 in
    ap (λ b. cond b None (with_value (flag_named (before_first is_equals whole)) (after_first is_equals whole))) other
    ∙ ap (λ t. with_value (flag_named t) (after_first is_equals whole)) before
    ∙ ap (with_value (flag_named text)) after

-- no option has `=` in its name
no_equals : (f : Flag) → position_or_len is_equals (flag_text f) ≡ length (flag_text f)
no_equals (flag.Address address.Listen) = refl
no_equals (flag.Address address.Contact) = refl
no_equals (flag.Address address.Control) = refl
no_equals (flag.Address address.Feed) = refl
no_equals (flag.Number bound.Workers) = refl
no_equals (flag.Number bound.MinTime) = refl
no_equals (flag.Number bound.MaxTime) = refl
no_equals (flag.Number bound.DefaultTime) = refl
no_equals (flag.Number bound.ReferTime) = refl
no_equals (flag.Number bound.MaxCseq) = refl
no_equals (flag.Number bound.Table) = refl
no_equals (flag.Number bound.Serials) = refl
no_equals (flag.Number bound.Kept) = refl
no_equals (flag.Number bound.Inbox) = refl
no_equals (flag.Number bound.Outbox) = refl
no_equals (flag.Number bound.Repeats) = refl
no_equals (flag.Number bound.Open) = refl
no_equals (flag.Number bound.Linger) = refl
no_equals (flag.Number bound.Outage) = refl
no_equals (flag.Number bound.MaxDatagram) = refl
no_equals (flag.Number bound.ReceiveBuffer) = refl
no_equals (flag.Number bound.NonceTime) = refl
no_equals (flag.Number bound.PerSource) = refl
no_equals (flag.Number bound.JournalBytes) = refl
no_equals (flag.Number bound.MaxTexts) = refl
no_equals (flag.Number bound.MaxMailboxes) = refl
no_equals flag.MailboxFile = refl
no_equals flag.StateFile = refl
no_equals flag.JournalFolder = refl
no_equals flag.Sync = refl
no_equals flag.PasswordFile = refl
no_equals flag.Watch = refl
no_equals flag.Rate = refl
no_equals flag.Guesses = refl
no_equals flag.Allow = refl
no_equals flag.ControlAllow = refl
no_equals flag.FeedFrom = refl
no_equals flag.Seed = refl

pair_is : (f g : Flag) (v w : List ℕ) → ◌≡◌ {A = Option (Flag × List ℕ)} (Some (f, v)) (Some (g, w)) → (f ≡ g) × (v ≡ w)
pair_is f g v w e = let same = some_is {A = Flag × List ℕ} (f, v) (g, w) e in (ap (λ (p : Flag × List ℕ). p.0) same, ap (λ (p : Flag × List ℕ). p.1) same)

pub joined_takes : (word : List ℕ) (f : Flag) (value : List ℕ) → joined_of word ≡ Some (f, value) → word ≡ joined (flag_text f) value
unfolding joined_of
joined_takes word f value e = step (eqb (position_or_len is_equals word) (length word)) refl e where
  by_flag : position_or_len is_equals word < length word → (o : Option Flag) → flag_named (before_first is_equals word) ≡ o → with_value o (after_first is_equals word) ≡ Some (f, value) → word ≡ joined (flag_text f) value
  by_flag below None is k = absurd cc
  by_flag below (Some g) is k =
      let same = pair_is g f (after_first is_equals word) value k in
      let equals : get_or word (position_or_len is_equals word) 0 ≡ 61 = eqb-true (get_or word (position_or_len is_equals word) 0) 61 (passes_at_first is_equals word 0 below) in
      split_at_first is_equals word 0 below
      ∙ ap (λ b. before_first is_equals word ++ b ∷ after_first is_equals word) equals
      ∙ ap (λ t. t ++ 61 ∷ after_first is_equals word) (flag_takes (before_first is_equals word) g is ∙ ap flag_text same.0)
      ∙ ap (λ v. flag_text f ++ 61 ∷ v) same.1

  step : (b : Bool) → eqb (position_or_len is_equals word) (length word) ≡ b → cond b None (with_value (flag_named (before_first is_equals word)) (after_first is_equals word)) ≡ Some (f, value) → word ≡ joined (flag_text f) value
  step true is k = absurd cc
  step false is k =
      let most = prefix_len-le-length (λ b. not (is_equals b)) word in
      let other = eqb-false (position_or_len is_equals word) (length word) is in
      by_flag (omega (arith, most, other)) (flag_named (before_first is_equals word)) refl k

pub joined_again : (f : Flag) (value : List ℕ) → joined_of (joined (flag_text f) value) ≡ Some (f, value)
joined_again f value = joined_at (flag_text f) value (no_equals f) ∙ ap (λ o. with_value o value) (flag_again f)

pub no_joined : (word : List ℕ) → joined_of word ≡ None → (f : Flag) (value : List ℕ) → word ≢ joined (flag_text f) value
no_joined word none f value same = absurd (clash (sym none ∙ ap joined_of same ∙ joined_again f value)) where
  clash : ◌≡◌ {A = Option (Flag × List ℕ)} None (Some (f, value)) → ⊥
  clash e = absurd cc

-- an option with its value in one word is no option alone
pub joined_is_no_flag : (f : Flag) (value : List ℕ) → flag_named (joined (flag_text f) value) ≡ None
joined_is_no_flag f value = step (flag_named (joined (flag_text f) value)) refl where
  clash : ◌≡◌ {A = Option (Flag × List ℕ)} None (Some (f, value)) → ⊥
  clash e = absurd cc

  step : (o : Option Flag) → flag_named (joined (flag_text f) value) ≡ o → o ≡ None
  step None is = refl
  step (Some g) is = absurd (clash (sym (not_joined (flag_text g) (no_equals g)) ∙ ap joined_of (sym (flag_takes (joined (flag_text f) value) g is)) ∙ joined_again f value))

-- ---- an option without a value

pub switch_takes : (word : List ℕ) (s : Switch) → switch_of word ≡ Some s → word ≡ switch_text s
unfolding switch_of
switch_takes word s e = found_text switch_text switches word s e

pub switch_again : (s : Switch) → switch_of (switch_text s) ≡ Some s
unfolding switch_of
switch_again switch.KeepSubscriptions = refl
switch_again switch.NoRefer = refl
switch_again switch.UntilInputEnds = refl
switch_again switch.OldDigest = refl
switch_again switch.LogRequests = refl
switch_again switch.LogJson = refl
switch_again switch.AnyMailbox = refl

pub no_switch : (word : List ℕ) → switch_of word ≡ None → (s : Switch) → word ≢ switch_text s
no_switch word none s same = absurd (clash (sym none ∙ ap switch_of same ∙ switch_again s)) where
  clash : ◌≡◌ {A = Option Switch} None (Some s) → ⊥
  clash e = absurd cc

-- it has no `=`, and none of the options with a value is written so
pub switch_is_no_flag : (s : Switch) → (flag_named (switch_text s) ≡ None) × (joined_of (switch_text s) ≡ None)
unfolding flag_named address_flag_of other_of special_of bound_of time_of number_of count_of size_of
switch_is_no_flag switch.KeepSubscriptions = (refl, not_joined (switch_text switch.KeepSubscriptions) refl)
switch_is_no_flag switch.NoRefer = (refl, not_joined (switch_text switch.NoRefer) refl)
switch_is_no_flag switch.UntilInputEnds = (refl, not_joined (switch_text switch.UntilInputEnds) refl)
switch_is_no_flag switch.OldDigest = (refl, not_joined (switch_text switch.OldDigest) refl)
switch_is_no_flag switch.LogRequests = (refl, not_joined (switch_text switch.LogRequests) refl)
switch_is_no_flag switch.LogJson = (refl, not_joined (switch_text switch.LogJson) refl)
switch_is_no_flag switch.AnyMailbox = (refl, not_joined (switch_text switch.AnyMailbox) refl)
