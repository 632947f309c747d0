-- How far the thread that sends is with what it put.
use Rattle.std.proofs.Common.{◌≡◌, ◌<◌, ℕ, List, [], ◌∷◌, ◌++◌, map, length, Some, None, refl, ap, sym, ◌∙◌, subst, arith}
use Rattle.std.specs.Prelude.{slice_get, drop}
use Rattle.std.proofs.lemmas.List.{append-nil, append_assoc, map-append}
use Rattle.std.proofs.lemmas.List.Elements.{filter_map-append}
use Rattle.notifier_model.specs.declared.event.Out.{Out}
use Rattle.feeds.specs.declared.sending.Fate.{Fate}
use Rattle.feeds.specs.declared.sending.Fate.TheVariants.{Sent}
use Rattle.feeds.specs.Emitted.{WireSeen}
use Rattle.transactions.specs.Machine.{State}
use Rattle.transactions.specs.Runs.{state_after}
use Rattle.watchers.specs.Rows.{Row}
use Rattle.service.specs.declared.fates.Put.{Put as OutPut}
use Rattle.service.specs.declared.sending.Waiting.{Waiting}
use Rattle.service.specs.Sending.{Act, Put, Does, call_of, calls, fates, kept_after, went_out}
use Rattle.service.specs.Watched.{IsSeen, AreRowed}
use Rattle.service.specs.Keeping.{act_of, AreKept, open_then, GoesOnBy}
use Rattle.service.proofs.Acts.{state_append, state_first, does_none}
use Rattle.service.proofs.Rowing.{rowed_more}

-- ---- the transactions after some acts

pub state_more : (a b : List Act) (s : State) → state_after (calls (a ++ b)) s ≡ state_after (calls b) (state_after (calls a) s)
state_more a b s = ap (λ l. state_after l s) (filter_map-append call_of a b) ∙ state_append (calls a) (calls b) s

pub state_put : (acts : List Act) (now : ℕ) (o : Out) (f : Fate) (s : State)
    → state_after (calls (acts ++ Put now o f ∷ [])) s ≡ kept_after now o (state_after (calls acts) s)
state_put acts now o f s = state_more acts (Put now o f ∷ []) s ∙ state_first (call_of (Put now o f)) [] (state_after (calls acts) s)

-- one more that went out before the start
pub went_out_more : (outs : List Out) (o : Out) (s : State) → state_after (calls (went_out (outs ++ o ∷ []))) s ≡ kept_after 0 o (state_after (calls (went_out outs)) s)
went_out_more outs o s =
    ap (λ (l : List Act). state_after (calls l) s) (map-append (λ (x : Out). Put 0 x Sent) outs (o ∷ [])) ∙ state_put (went_out outs) 0 o Sent s

-- ---- where nothing is left to be kept

module _ {s : State} {rows : List Row} {acts : List Act} {w : Waiting} (is : AreKept s rows acts w) (none : w.burst.items ≡ []) where
  all_kept : acts ≡ is.kept
  all_kept = is.all ∙ ap (λ (l : List OutPut). is.kept ++ map act_of l) none ∙ append-nil is.kept

  pub settled_state : w.transactions ≡ state_after (calls acts) s
  settled_state = is.open_now ∙ ap (λ (l : List Act). state_after (calls l) s) (sym all_kept)

  pub settled_rows : AreRowed acts rows w.watchers.rows
  settled_rows = subst (λ (l : List Act). AreRowed l rows w.watchers.rows) (sym all_kept) is.rowed

  -- more was done then, and nothing is left of it
  pub kept_more : (more : List Act) (w' : Waiting) → w'.burst.items ≡ [] → w'.transactions ≡ state_after (calls more) w.transactions
      → AreRowed more w.watchers.rows w'.watchers.rows → AreKept s rows (acts ++ more) w'
  kept_more more w' none' after rowed = record {
    kept = acts ++ more;
    all = sym (append-nil (acts ++ more)) ∙ ap (λ (l : List OutPut). (acts ++ more) ++ map act_of l) (sym none');
    open_now = after ∙ ap (state_after (calls more)) settled_state ∙ sym (state_more acts more s);
    rowed = rowed_more acts more rows w.watchers.rows w'.watchers.rows settled_rows rowed;
  }

-- ---- the transactions once the burst is kept

module _ {s : State} {rows : List Row} {acts : List Act} {w : Waiting} (is : AreKept s rows acts w) where
  open_is : open_then w ≡ state_after (calls acts) s
  open_is =
      ap (state_after (calls (map act_of w.burst.items))) is.open_now ∙ sym (state_more is.kept (map act_of w.burst.items) s)
      ∙ ap (λ (l : List Act). state_after (calls l) s) (sym is.all)

  -- what it goes on by comes behind what was done
  pub does_behind : {more : List Act} {wire wire' : WireSeen} → Does more (open_then w) (state_after (calls more) (open_then w)) wire wire'
      → Does more (state_after (calls acts) s) (state_after (calls (acts ++ more)) s) wire wire'
  does_behind {more = more} {wire = wire} {wire' = wire'} does =
      let P : State → Type 0 = λ u. Does more u (state_after (calls more) u) wire wire' in
      let Q : State → Type 0 = λ u. Does more (state_after (calls acts) s) u wire wire' in
      subst Q (sym (state_more acts more s)) (subst P open_is does)

-- what was put is kept but for the burst, from there on
from_here : (w : Waiting) → AreKept w.transactions w.watchers.rows (map act_of w.burst.items) w
from_here w = record { kept = []; all = refl; open_now = refl; rowed = refl }

-- ---- one of the burst is kept

pub kept_one : {s : State} {rows : List Row} {acts : List Act} (w w' : Waiting) (p : OutPut) (rest : List OutPut) → w.burst.items ≡ p ∷ rest → w'.burst.items ≡ rest
    → w'.transactions ≡ kept_after p.now p.out w.transactions → IsSeen p.now p.out w.watchers.rows w'.watchers.rows
    → AreKept s rows acts w → AreKept s rows acts w'
kept_one {s = s} {rows = rows} {acts = acts} w w' p rest first then after seen is = record {
  kept = is.kept ++ act_of p ∷ [];
  all = is.all ∙ ap (λ (l : List OutPut). is.kept ++ map act_of l) (first ∙ ap (λ (l : List OutPut). p ∷ l) (sym then))
      ∙ sym (append_assoc is.kept (act_of p ∷ []) (map act_of w'.burst.items));
  open_now = after ∙ ap (kept_after p.now p.out) is.open_now ∙ sym (state_put is.kept p.now p.out p.fate s);
  rowed = rowed_more is.kept (act_of p ∷ []) rows w.watchers.rows w'.watchers.rows is.rowed (w'.watchers.rows, seen, refl);
}

-- one comes behind the others
pub kept_last : {s : State} {rows : List Row} {acts : List Act} (w w' : Waiting) (p : OutPut) → w'.burst.items ≡ w.burst.items ++ p ∷ []
    → w'.transactions ≡ w.transactions → w'.watchers.rows ≡ w.watchers.rows → AreKept s rows acts w → AreKept s rows (acts ++ act_of p ∷ []) w'
kept_last {s = s} {rows = rows} {acts = acts} w w' p more same_state same_rows is = record {
  kept = is.kept;
  all = ap (λ (l : List Act). l ++ act_of p ∷ []) is.all ∙ append_assoc is.kept (map act_of w.burst.items) (act_of p ∷ [])
      ∙ ap (λ (l : List Act). is.kept ++ l) (sym (map-append act_of w.burst.items (p ∷ [])))
      ∙ ap (λ (l : List OutPut). is.kept ++ map act_of l) (sym more);
  open_now = same_state ∙ is.open_now;
  rowed = subst (λ (r : List Row). AreRowed is.kept rows r) (sym same_rows) is.rowed;
}

-- the same by another name
pub kept_same : {s : State} {rows : List Row} {acts : List Act} (w w' : Waiting) → w'.burst.items ≡ w.burst.items → w'.transactions ≡ w.transactions
    → w'.watchers.rows ≡ w.watchers.rows → AreKept s rows acts w → AreKept s rows acts w'
kept_same {s = s} {rows = rows} w w' same_burst same_state same_rows is = record {
  kept = is.kept;
  all = is.all ∙ ap (λ (l : List OutPut). is.kept ++ map act_of l) (sym same_burst);
  open_now = same_state ∙ is.open_now;
  rowed = subst (λ (r : List Row). AreRowed is.kept rows r) (sym same_rows) is.rowed;
}

-- where only what waits for its first send changes
pub kept_beside : {s : State} {rows : List Row} {acts : List Act} (w w' : Waiting) → w'.burst ≡ w.burst → w'.transactions ≡ w.transactions
    → w'.watchers ≡ w.watchers → AreKept s rows acts w → AreKept s rows acts w'
kept_beside w w' same_burst same_state same_watchers is = kept_same w w' (cc) same_state (cc) is

-- ---- the first of the burst

pub first_of : (p : OutPut) (items : List OutPut) → Some p ≡ slice_get items 0 → items ≡ p ∷ drop 1 items
first_of p [] e = absurd cc
first_of p (q ∷ items) e = let same : q ≡ p = cc in ap (λ (x : OutPut). x ∷ items) same

pub none_first : (items : List OutPut) → None ≡ slice_get items 0 → items ≡ []
none_first [] e = refl
none_first (q ∷ items) e = absurd cc

pub shorter : (p : OutPut) (items rest : List OutPut) → items ≡ p ∷ rest → length rest < length items
shorter p items rest is = subst (λ (l : List OutPut). length rest < length l) (sym is) (omega arith)

-- ---- nothing was done

pub goes_on_none : (w : Waiting) (wire : WireSeen) → GoesOnBy [] w w wire wire
goes_on_none w wire = record {
  no_outs = refl;
  kept = λ s rows acts is. subst (λ (l : List Act). AreKept s rows l w) (sym (append-nil acts)) is;
  does = does_none (open_then w) wire;
}

-- all was kept first, and more was done then
pub goes_on_more : (w mid w' : Waiting) (more : List Act) (wire wire' : WireSeen)
    → ((s : State) (rows : List Row) (acts : List Act) → AreKept s rows acts w → AreKept s rows acts mid) → mid.burst.items ≡ [] → w'.burst.items ≡ []
    → fates more ≡ [] → Does more mid.transactions w'.transactions wire wire' → AreRowed more mid.watchers.rows w'.watchers.rows
    → GoesOnBy more w w' wire wire'
goes_on_more w mid w' more wire wire' settled none none' no_outs does rowed =
    let same : mid.transactions ≡ open_then w = settled_state (settled _ _ _ (from_here w)) none in
    let P : State → Type 0 = λ u. Does more u w'.transactions wire wire' in
    let did : Does more (open_then w) w'.transactions wire wire' = subst P same does in record {
      no_outs = no_outs;
      kept = λ s rows acts is. kept_more (settled s rows acts is) none more w' none' does.open_now rowed;
      does = record { taken = did.taken; failed = did.failed; asked = did.asked; open_now = refl };
    }
