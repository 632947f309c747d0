-- Steps of transfers that no row watches make nothing of the packages.
use Rattle.std.proofs.Common.{◌≡◌, ◌∙◌, ℕ, Bool, true, false, cond, not, ◌||◌, List, [], ◌∷◌, ◌++◌, map, Option, None, Some, refl, sym, ap}
use Rattle.std.specs.Str.{bytes_eq}
use Rattle.std.specs.List.{list_any, filter}
use Rattle.std.specs.FinMap.{get-empty}
use Rattle.std.specs.Ordering.{nat_cmp}
use Rattle.std.specs.Cmp.Lexicographic.{slice_cmp}
use Rattle.std.proofs.lemmas.List.Sums.{fold-append}
use Rattle.package.specs.declared.change.Change.{Change}
use Rattle.package.specs.declared.change.Change.TheVariants.{Begin, Step}
use Rattle.package.specs.declared.change.Outcome.{Outcome}
use Rattle.package.specs.declared.change.Outcome.TheVariants.{Unknown}
use Rattle.package.specs.Values.{Progress}
use Rattle.package.specs.Content.{finite_maps, Content, held, Seen, refer_package}
use Rattle.package.specs.Changes.{step_at, applied, with_contents, change_of}
use Rattle.package.proofs.OneChange.{step_on, change_held}
use Rattle.refer.specs.Transfers.{new_transfers}
use Rattle.arguments.specs.Setup.{mailboxes_named}
use Rattle.arguments.specs.Told.{told as box_behind}
use Rattle.notifier_model.specs.declared.row.Row.{Row}
use Rattle.journal.specs.declared.record.Told.{Told}
use Rattle.keeper.specs.Told.{without}
use Rattle.resumption.specs.Told.{mails, is_of_refer, begins, tags, steps_of, watched, boxes_told, ForgottenLaw, GoneLaw}

-- of no other transfers than those with these tags anything is held
abbrev Knows : List (List ℕ) → Seen → Type 0
Knows names b = (t : List ℕ) → list_any (bytes_eq t) names ≡ false → held b.contents t ≡ None

-- a step of a transfer of which nothing is held changes nothing
no_step : (b : Seen) (p : Progress) → held b.contents p.tag ≡ None → (change_of b (Step p)).1 ≡ b
no_step b p none = by (bytes_eq b.name refer_package)
  where
    by : (is : Bool) → (cond is (with_contents b (applied finite_maps b.contents (Step p))) (Unknown, b)).1 ≡ b
    by true = ap (λ (o : Option Content). let box : Seen = record b { contents = (step_at finite_maps b.contents p o).1 } in box) none
    by false = refl

nothing : (x y : Bool) → cond {A = Option Content} x (cond y None None) None ≡ None
nothing true true = refl
nothing true false = refl
nothing false y = refl

step_knows : (names : List (List ℕ)) (b : Seen) (p : Progress) → Knows names b → Knows names (change_of b (Step p)).1
step_knows names b p knows = λ t out.
    change_held b (Step p) t
    ∙ ap (step_on b.name (Step p) t) (knows t out)
    ∙ nothing (bytes_eq b.name refer_package) (bytes_eq t p.tag)

-- without these steps all is as with them
steps_same : (names : List (List ℕ)) (steps : List Progress) (b : Seen) → Knows names b
    → box_behind (map (λ p. Step p) (steps_of names steps)) b ≡ box_behind (map (λ p. Step p) steps) b
steps_same names [] b knows = refl
steps_same names (p ∷ ps) b knows = by (list_any (bytes_eq p.tag) names) refl (λ c k. steps_same names ps c k)
  where
    by : (is : Bool) → list_any (bytes_eq p.tag) names ≡ is
        → ((c : Seen) → Knows names c → box_behind (map (λ q. Step q) (steps_of names ps)) c ≡ box_behind (map (λ q. Step q) ps) c)
        → box_behind (map (λ q. Step q) (cond is (p ∷ steps_of names ps) (steps_of names ps))) b ≡ box_behind (map (λ q. Step q) (p ∷ ps)) b
    by true is same = same (change_of b (Step p)).1 (step_knows names b p knows)
    by false is same = same b knows ∙ ap (box_behind (map (λ q. Step q) ps)) (sym (no_step b p (knows p.tag is)))

-- ---- the beginnings

or_right : (a b : Bool) → b ≡ true → (a || b) ≡ true
or_right true b e = refl
or_right false b e = e

-- another transfer's beginning
begun : (name : Bool) (same : Bool) (o new : Option Content) → same ≡ false → o ≡ None → cond name (cond same new o) o ≡ None
begun true true o new is none = absurd cc
begun true false o new is none = none
begun false same o new is none = none

begins_know : (names : List (List ℕ)) (rows : List Row) (b : Seen)
    → ((t : List ℕ) → list_any (bytes_eq t) (map (λ (r : Row). r.sub.usage.local_tag) rows) ≡ true → list_any (bytes_eq t) names ≡ true)
    → Knows names b → Knows names (box_behind (map (λ (r : Row). Begin r.sub.usage.local_tag) rows) b)
begins_know names [] b all knows = knows
begins_know names (r ∷ rows) b all knows =
    begins_know names rows (change_of b (Begin tag)).1 (λ t is. all t (or_right (bytes_eq t tag) (list_any (bytes_eq t) rest) is)) begun_one
  where
    tag : List ℕ
    tag = r.sub.usage.local_tag

    rest : List (List ℕ)
    rest = map (λ (s : Row). s.sub.usage.local_tag) rows

    other : (t : List ℕ) (same : Bool) → bytes_eq t tag ≡ same → list_any (bytes_eq t) names ≡ false → same ≡ false
    other t false e out = refl
    other t true e out = let there : list_any (bytes_eq t) names ≡ true = all t (ap (λ (x : Bool). x || list_any (bytes_eq t) rest) e) in absurd cc

    begun_one : Knows names (change_of b (Begin tag)).1
    begun_one t out =
        change_held b (Begin tag) t
        ∙ begun (bytes_eq b.name refer_package) (bytes_eq t tag) (held b.contents t) _ (other t (bytes_eq t tag) refl out) (knows t out)

-- ---- all

pub forgotten : ForgottenLaw
forgotten no_refer names told rows =
    let run : Seen → Change → Seen = λ b c. (change_of b c).1 in
    let first : Seen = box_behind (begins rows) new_transfers in
    let knows : Knows (tags rows) first = begins_know (tags rows) (filter is_of_refer rows) new_transfers (λ t is. is) (λ t out. get-empty (slice_cmp nat_cmp) t) in
    let behind : (steps : List Progress) → box_behind (begins rows ++ map (λ p. Step p) steps) new_transfers ≡ box_behind (map (λ p. Step p) steps) first
    = λ steps. fold-append run new_transfers (begins rows) (map (λ p. Step p) steps) in
    ap (λ (b : Seen). box_behind (mails told.mail) (mailboxes_named names) ∷ (cond no_refer [] (b ∷ [])))
    (behind (watched rows told.progress) ∙ steps_same (tags rows) told.progress first knows ∙ sym (behind told.progress))

-- ---- what a keeper forgets

-- of what is watched nothing is gone
watched_left : (gone : List (List ℕ)) (rows : List Row) (ps : List Progress)
    → ((tag : List ℕ) → list_any (bytes_eq tag) (tags rows) ≡ true → list_any (bytes_eq tag) gone ≡ false)
    → watched rows (without gone ps) ≡ watched rows ps
watched_left gone rows [] apart = refl
watched_left gone rows (p ∷ ps) apart =
    by (list_any (bytes_eq p.tag) gone) (list_any (bytes_eq p.tag) (tags rows)) refl refl (watched_left gone rows ps apart)
  where
    left : List Progress
    left = without gone ps

    by : (is watches : Bool) → list_any (bytes_eq p.tag) gone ≡ is → list_any (bytes_eq p.tag) (tags rows) ≡ watches
        → watched rows left ≡ watched rows ps
        → watched rows (cond (not is) (p ∷ left) left) ≡ cond watches (p ∷ watched rows ps) (watched rows ps)
    by true true is watches e = let none : true ≡ false = sym is ∙ apart p.tag watches in absurd cc
    by true false is watches e = e
    by false true is watches e =
        ap (λ b. cond b (p ∷ watched rows left) (watched rows left)) watches ∙ ap (λ (l : List Progress). p ∷ l) e
    by false false is watches e = ap (λ b. cond b (p ∷ watched rows left) (watched rows left)) watches ∙ e

pub gone_forgotten : GoneLaw
gone_forgotten no_refer names gone told rows apart =
    sym (forgotten no_refer names (record told { progress = without gone told.progress }) rows)
    ∙ ap (λ (steps : List Progress). boxes_told no_refer names (record told { progress = steps }) rows) (watched_left gone rows told.progress apart)
    ∙ forgotten no_refer names told rows
