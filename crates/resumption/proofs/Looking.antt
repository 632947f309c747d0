-- What is known of a worker that there is: only memory for its copy may be wanting.
use Rattle.std.proofs.Common.{◌≡◌, ◌∙◌, ℕ, ◌<◌, ◌≤◌, List, length, refl, arith}
use Rattle.journal.specs.declared.writing.Unwritten.{Unwritten}
use Rattle.keeper.specs.declared.error.Unkept.{Unkept}
use Rattle.keeper.specs.declared.error.Unkept.TheVariants as unkept
use Rattle.keeper.specs.Told.{Kept}
use Rattle.keeper.specs.Refusing.{LookFails}
use Rattle.resumption.specs.declared.desks.Halt.{Halt}
use Rattle.resumption.specs.declared.desks.Halt.TheVariants as halt
use Rattle.resumption.specs.Halts.{halted}

known : (workers : List Kept) (w : ℕ) (why : Unkept) → w < length workers → LookFails workers w why → halted why ≡ halt.NoMemory
known workers w (unkept.Unwritten why) less fails = absurd fails
known workers w unkept.NoMemory less fails = refl
known workers w unkept.NoSuchWorker less fails = let beyond : length workers ≤ w = fails in absurd (omega (arith, less, beyond))
known workers w unkept.NotBegun less fails = absurd fails
known workers w unkept.Outdated less fails = absurd fails
known workers w unkept.Spent less fails = absurd fails

pub told_by_all : (workers : List Kept) (w count : ℕ) (why : Unkept) (halts : Halt) → w < count → count ≤ length workers
    → LookFails workers w why → halts ≡ halted why → halts ≡ halt.NoMemory
told_by_all workers w count why halts less all fails is = is ∙ known workers w why (omega (arith, less, all)) fails
