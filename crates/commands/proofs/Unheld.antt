-- What lines told of mailboxes that no worker has yet.
use Rattle.std.proofs.Common.{◌≡◌, ◌∙◌, ◌==◌, ℕ, ◌+◌, ◌<◌, Bool, true, false, cond, List, [], ◌∷◌, ◌++◌, length, take, get_or, map, refl, sym, ap, append_assoc, arith}
use Rattle.std.specs.Prelude.{slice_get, option_map, Option, Some, None, Vec}
use Rattle.std.specs.List.{flat_map, zip}
use Rattle.std.specs.declared.alloc.Global.{Global}
use Rattle.std.proofs.lemmas.Bool.{eqb-true}
use Rattle.std.proofs.lemmas.List.{map-append, length-map, length_push}
use Rattle.package.specs.declared.change.Change.{Change}
use Rattle.package.specs.declared.change.Change.TheVariants as change
use Rattle.package.specs.Values.{MailChange}
use Rattle.journal.specs.declared.record.Told.{Told}
use Rattle.keeper.specs.Told.{Kept, told_of}
use Rattle.keeper.specs.Keeping.{State, first}
use Rattle.resumption.proofs.Lists.{taken_more, zip_push}
use Rattle.resumption.proofs.Telling.{any_once}
use Rattle.plans.specs.Plans.{each_once}
use Rattle.commands.specs.Runs.{unheld, told_also, all_told_also, kept_also}

-- by the names of a set, which has each once
unheld_once : (names : List (List ℕ)) (c : Change) → unheld (each_once names) c ≡ unheld names c
unheld_once names (change.Mail m) = ap (λ b. cond b [] (m ∷ [])) (any_once m.mailbox names)
unheld_once names (change.Begin tag) = refl
unheld_once names (change.Step step) = refl
unheld_once names (change.Forget tag) = refl

-- one change more
pub unheld_more : (names keys : List (List ℕ)) (c : Change) (so_far after all : List MailChange) (before rest : List Change)
    → before ≡ c ∷ rest → keys ≡ each_once names → after ≡ so_far ++ unheld keys c
    → so_far ++ flat_map (unheld names) before ≡ all → after ++ flat_map (unheld names) rest ≡ all
unheld_more names keys c so_far after all before rest steps one new held =
    ap (λ (l : List MailChange). l ++ flat_map (unheld names) rest)
    (new ∙ ap (λ (k : List (List ℕ)). so_far ++ unheld k c) one ∙ ap (λ (l : List MailChange). so_far ++ l) (unheld_once names c))
    ∙ append_assoc so_far (unheld names c) (flat_map (unheld names) rest)
    ∙ ap (λ (l : List Change). so_far ++ flat_map (unheld names) l) (sym steps)
    ∙ held

-- what each item gives, with one item more
pub each_more : {X Y Z : Type 0} (f : X → Y) (g : Z → Y) (xs : List X) (i : ℕ) (x : X) (so_far after : List Z) (z : Z) → i < length xs → x ≡ get_or xs i x
    → map g so_far ≡ map f (take i xs) → after ≡ so_far ++ z ∷ [] → g z ≡ f x → map g after ≡ map f (take (i + 1) xs)
each_more {X} {Y} {Z} f g xs i x so_far after z below is held new same =
    ap (map g) new ∙ map-append g so_far (z ∷ [])
    ∙ ap (λ (l : List Y). l ++ g z ∷ []) held ∙ ap (λ (y : Y). map f (take i xs) ++ y ∷ []) same
    ∙ sym (ap (map f) (taken_more xs i x below is) ∙ map-append f (take i xs) (x ∷ []))

abbrev also_told : List MailChange × Kept → Told
also_told n = told_also (told_of n.1) n.0

-- one worker more that was told changes too
also_more : (kept : List Kept) (done : List (List MailChange)) (changes : List MailChange) (told also : Told) (worker : ℕ) (so_far after : List Told)
    → worker ≡ length done → option_map told_of (slice_get kept worker) ≡ Some told → so_far ≡ all_told_also done kept → also ≡ told_also told changes
    → after ≡ so_far ++ also ∷ [] → after ≡ all_told_also (done ++ changes ∷ []) kept
also_more kept done changes told also worker so_far after same has held is new = step (slice_get kept worker) refl has where
  step : (o : Option Kept) → slice_get kept worker ≡ o → option_map told_of o ≡ Some told → after ≡ all_told_also (done ++ changes ∷ []) kept
  step None at e = absurd cc
  step (Some k) at e =
      let there : slice_get kept (length done) ≡ Some k = ap (slice_get kept) (sym same) ∙ at in
      let its : told_of k ≡ told = cc in
      new
      ∙ ap (λ (t : Told). so_far ++ t ∷ []) (is ∙ ap (λ (t : Told). told_also t changes) (sym its))
      ∙ ap (λ (l : List Told). l ++ also_told (changes, k) ∷ []) held
      ∙ sym (ap (map also_told) (zip_push done changes kept k there) ∙ map-append also_told (zip done kept) ((changes, k) ∷ []))

abbrev lists : List (Vec MailChange Global) → List (List MailChange)
lists all = map (λ (u : Vec MailChange Global). u.items) all

pub all_also_more : (kept : List Kept) (done : List (Vec MailChange Global)) (changes : Vec MailChange Global) (told also : Told) (worker : ℕ) (so_far after : List Told)
    → worker ≡ length done → option_map told_of (slice_get kept worker) ≡ Some told → so_far ≡ all_told_also (lists done) kept → also ≡ told_also told changes.items
    → after ≡ so_far ++ also ∷ [] → after ≡ all_told_also (lists (done ++ changes ∷ [])) kept
all_also_more kept done changes told also worker so_far after same has held is new =
    also_more kept (lists done) changes.items told also worker so_far after (same ∙ sym (length-map done (λ (u : Vec MailChange Global). u.items))) has held is new
    ∙ ap (λ (l : List (List MailChange)). all_told_also l kept) (sym (map-append (λ (u : Vec MailChange Global). u.items) done (changes ∷ [])))

pub many_more : {X Y : Type 0} (xs after : List X) (ys : List Y) (x : X) (y : Y) → length xs ≡ length ys → after ≡ xs ++ x ∷ [] → length after ≡ length (ys ++ y ∷ [])
many_more xs after ys x y held new = ap length new ∙ length_push xs x ∙ ap (λ (n : ℕ). n + 1) held ∙ sym (length_push ys y)

-- with no changes all is kept as it was, and else as the keeper of what was told then
pub kept_none : (unheld : List (Vec MailChange Global)) (keeper kept : State) (b : Bool) → b ≡ (length unheld == 0) → b ≡ true → kept ≡ keeper
    → kept ≡ kept_also (lists unheld) keeper
kept_none [] keeper kept b is none same = same
kept_none (u ∷ unheld) keeper kept b is none same = absurd (omega (arith, eqb-true (length (u ∷ unheld)) 0 (sym is ∙ none)))

pub kept_some : (unheld : List (Vec MailChange Global)) (keeper kept : State) (b : Bool) → b ≡ (length unheld == 0) → b ≡ false
    → kept ≡ first (all_told_also (lists unheld) keeper.workers) → kept ≡ kept_also (lists unheld) keeper
kept_some [] keeper kept b is some new = absurd (let e : true ≡ false = sym is ∙ some in cc)
kept_some (u ∷ unheld) keeper kept b is some new = new
