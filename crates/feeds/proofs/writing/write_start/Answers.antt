use Rattle.std.proofs.Common.{◌≡◌, ℕ, List, [], ◌∷◌, ◌++◌, Option}
use Rattle.feeds.proofs.Pieces.{piece_fails, rest_fails, flush_fails, on_err}
use Rattle.feeds.proofs.writing.write_start.Goals as goal

abbrev word : List ℕ
word = 83 ∷ 84 ∷ 65 ∷ 82 ∷ 84 ∷ 32 ∷ []

abbrev blank : List ℕ
blank = 32 ∷ []

abbrev lf : List ℕ
lf = 10 ∷ []

pub returns-in_err-write_whole-clause-front : goal.returns-in_err-write_whole-clause-front
returns-in_err-write_whole-clause-front g c =
    let k0 : Option (List ℕ) = g.F.Write.contents c.args.sink.now.writer in
    let k1 : Option (List ℕ) = g.F.Write.contents c.write_whole.new.sink.writer in
    on_err _ (piece_fails k0 k1 word (c.args.tag.now ++ (blank ++ (c.args.refer_to.now ++ lf))) c.in_err-write_whole.ensures.front)

pub returns-in_err-write_whole-2-clause-front : goal.returns-in_err-write_whole-2-clause-front
returns-in_err-write_whole-2-clause-front g c =
    let k0 : Option (List ℕ) = g.F.Write.contents c.args.sink.now.writer in
    let k1 : Option (List ℕ) = g.F.Write.contents c.write_whole.new.sink.writer in
    let k2 : Option (List ℕ) = g.F.Write.contents c.write_whole-2.new.sink.writer in
    let tag : c.as_bytes.result.now ≡ c.args.tag.now = c.as_bytes.ensures.value in
    on_err _ (rest_fails k0 k1 k2 word (c.args.tag.now ++ (blank ++ (c.args.refer_to.now ++ lf))) c.in_ok-write_whole.ensures.whole
    (piece_fails k1 k2 c.args.tag.now (blank ++ (c.args.refer_to.now ++ lf)) (rw tag at c.in_err-write_whole-2.ensures.front)))

pub returns-in_err-write_whole-3-clause-front : goal.returns-in_err-write_whole-3-clause-front
returns-in_err-write_whole-3-clause-front g c =
    let k0 : Option (List ℕ) = g.F.Write.contents c.args.sink.now.writer in
    let k1 : Option (List ℕ) = g.F.Write.contents c.write_whole.new.sink.writer in
    let k2 : Option (List ℕ) = g.F.Write.contents c.write_whole-2.new.sink.writer in
    let k3 : Option (List ℕ) = g.F.Write.contents c.write_whole-3.new.sink.writer in
    let tag : c.as_bytes.result.now ≡ c.args.tag.now = c.as_bytes.ensures.value in
    on_err _ (rest_fails k0 k1 k3 word (c.args.tag.now ++ (blank ++ (c.args.refer_to.now ++ lf))) c.in_ok-write_whole.ensures.whole
    (rest_fails k1 k2 k3 c.args.tag.now (blank ++ (c.args.refer_to.now ++ lf)) (rw tag at c.in_ok-write_whole-2.ensures.whole)
    (piece_fails k2 k3 blank (c.args.refer_to.now ++ lf) c.in_err-write_whole-3.ensures.front)))

pub returns-in_err-write_whole-4-clause-front : goal.returns-in_err-write_whole-4-clause-front
returns-in_err-write_whole-4-clause-front g c =
    let k0 : Option (List ℕ) = g.F.Write.contents c.args.sink.now.writer in
    let k1 : Option (List ℕ) = g.F.Write.contents c.write_whole.new.sink.writer in
    let k2 : Option (List ℕ) = g.F.Write.contents c.write_whole-2.new.sink.writer in
    let k3 : Option (List ℕ) = g.F.Write.contents c.write_whole-3.new.sink.writer in
    let k4 : Option (List ℕ) = g.F.Write.contents c.write_whole-4.new.sink.writer in
    let tag : c.as_bytes.result.now ≡ c.args.tag.now = c.as_bytes.ensures.value in
    let refer_to : c.as_bytes-2.result.now ≡ c.args.refer_to.now = c.as_bytes-2.ensures.value in
    on_err _ (rest_fails k0 k1 k4 word (c.args.tag.now ++ (blank ++ (c.args.refer_to.now ++ lf))) c.in_ok-write_whole.ensures.whole
    (rest_fails k1 k2 k4 c.args.tag.now (blank ++ (c.args.refer_to.now ++ lf)) (rw tag at c.in_ok-write_whole-2.ensures.whole)
    (rest_fails k2 k3 k4 blank (c.args.refer_to.now ++ lf) c.in_ok-write_whole-3.ensures.whole
    (piece_fails k3 k4 c.args.refer_to.now lf (rw refer_to at c.in_err-write_whole-4.ensures.front)))))

pub returns-in_err-write_whole-5-clause-front : goal.returns-in_err-write_whole-5-clause-front
returns-in_err-write_whole-5-clause-front g c =
    let k0 : Option (List ℕ) = g.F.Write.contents c.args.sink.now.writer in
    let k1 : Option (List ℕ) = g.F.Write.contents c.write_whole.new.sink.writer in
    let k2 : Option (List ℕ) = g.F.Write.contents c.write_whole-2.new.sink.writer in
    let k3 : Option (List ℕ) = g.F.Write.contents c.write_whole-3.new.sink.writer in
    let k4 : Option (List ℕ) = g.F.Write.contents c.write_whole-4.new.sink.writer in
    let k5 : Option (List ℕ) = g.F.Write.contents c.write_whole-5.new.sink.writer in
    let tag : c.as_bytes.result.now ≡ c.args.tag.now = c.as_bytes.ensures.value in
    let refer_to : c.as_bytes-2.result.now ≡ c.args.refer_to.now = c.as_bytes-2.ensures.value in
    on_err _ (rest_fails k0 k1 k5 word (c.args.tag.now ++ (blank ++ (c.args.refer_to.now ++ lf))) c.in_ok-write_whole.ensures.whole
    (rest_fails k1 k2 k5 c.args.tag.now (blank ++ (c.args.refer_to.now ++ lf)) (rw tag at c.in_ok-write_whole-2.ensures.whole)
    (rest_fails k2 k3 k5 blank (c.args.refer_to.now ++ lf) c.in_ok-write_whole-3.ensures.whole
    (rest_fails k3 k4 k5 c.args.refer_to.now lf (rw refer_to at c.in_ok-write_whole-4.ensures.whole)
    c.in_err-write_whole-5.ensures.front))))

pub returns-in-Err-clause-front : goal.returns-in-Err-clause-front
returns-in-Err-clause-front g c =
    let k0 : Option (List ℕ) = g.F.Write.contents c.args.sink.now.writer in
    let k1 : Option (List ℕ) = g.F.Write.contents c.write_whole.new.sink.writer in
    let k2 : Option (List ℕ) = g.F.Write.contents c.write_whole-2.new.sink.writer in
    let k3 : Option (List ℕ) = g.F.Write.contents c.write_whole-3.new.sink.writer in
    let k4 : Option (List ℕ) = g.F.Write.contents c.write_whole-4.new.sink.writer in
    let k5 : Option (List ℕ) = g.F.Write.contents c.write_whole-5.new.sink.writer in
    let k6 : Option (List ℕ) = g.F.Write.contents c.flush.new.self.writer in
    let tag : c.as_bytes.result.now ≡ c.args.tag.now = c.as_bytes.ensures.value in
    let refer_to : c.as_bytes-2.result.now ≡ c.args.refer_to.now = c.as_bytes-2.ensures.value in
    rest_fails k0 k1 k6 word (c.args.tag.now ++ (blank ++ (c.args.refer_to.now ++ lf))) c.in_ok-write_whole.ensures.whole
    (rest_fails k1 k2 k6 c.args.tag.now (blank ++ (c.args.refer_to.now ++ lf)) (rw tag at c.in_ok-write_whole-2.ensures.whole)
    (rest_fails k2 k3 k6 blank (c.args.refer_to.now ++ lf) c.in_ok-write_whole-3.ensures.whole
    (rest_fails k3 k4 k6 c.args.refer_to.now lf (rw refer_to at c.in_ok-write_whole-4.ensures.whole)
    (flush_fails k4 k5 k6 lf c.in_ok-write_whole-5.ensures.whole c.in-Err.ensures.bytes))))
