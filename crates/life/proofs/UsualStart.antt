-- There is a start of which the laws speak: usual limits, and a package for transfers that holds nothing.
use Rattle.std.proofs.Common.{[], ◌∷◌, false, arith}
use Rattle.std.specs.Prelude.{codes, replicate}
use Rattle.std.specs.FinMap.{empty, get-empty}
use Rattle.std.specs.Ordering.{nat_cmp}
use Rattle.std.specs.Cmp.Lexicographic.{slice_cmp}
use Rattle.notifier_model.specs.Limits.{Limits}
use Rattle.notifier_model.specs.Start.{Start}
use Rattle.life.specs.Laws.{IsStart}

abbrev usual : Limits
usual = record { min_time = 60; max_time = 86400; default_time = 3600; refer_time = 180; max_cseq = 2147483647; table = 1024; serials = 4294967295; kept = 64; inbox = 64; outbox = 64 }

abbrev pub usual_start : Start
usual_start = record {
  place = record { limits = usual; seed = replicate 32 0; me = record { ip = 127 ∷ 0 ∷ 0 ∷ 1 ∷ []; port = 5060 }; stop = false; worker = 0 };
  boxes = record { name = codes "refer"; content_type = codes "message/sipfrag;version=2.0"; contents = empty } ∷ [];
}

pub is_start : IsStart usual_start
is_start = record {
  limits = record {
    min_time = (omega arith, omega arith);
    max_time = (omega arith, omega arith);
    default_time = (omega arith, omega arith);
    refer_time = (omega arith, omega arith);
    max_cseq = (omega arith, omega arith);
    table = (omega arith, omega arith);
    serials = (omega arith, omega arith);
    kept = (omega arith, omega arith);
    inbox = (omega arith, omega arith);
    outbox = (omega arith, omega arith);
  };
  no_transfer = λ tag. get-empty (slice_cmp nat_cmp) tag;
}
