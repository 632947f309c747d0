-- The hashes of digest authentication (RFC 7616 section 3.2, RFC 8760 section 2.1).
use Rattle.std.specs.Prelude.{ℕ, List, codes}
use Rattle.hex.specs.Hex.{encode_lower}
use Rattle.md5.specs.Md5.{md5}
use Rattle.sha2.specs.Sha256.{sha256}
use Rattle.digest.specs.declared.algorithm.Algorithm.{Algorithm}
use Rattle.digest.specs.declared.algorithm.Algorithm.TheVariants as algorithm

abbrev pub algorithm_text : Algorithm → List ℕ
algorithm_text algorithm.Md5 = codes "MD5"
algorithm_text algorithm.Sha256 = codes "SHA-256"

-- H(text), in hex digits
abbrev pub hexed : Algorithm → List ℕ → List ℕ
hexed algorithm.Md5 text = encode_lower (md5 text)
hexed algorithm.Sha256 text = encode_lower (sha256 text)
