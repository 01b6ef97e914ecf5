-- The metainfo file of a load (BEP 3, and BEP 19 for the mirrors).
use Rattle.std.specs.Prelude.{ℕ, List, ◌++◌, codes, flat_map}

abbrev pub digests_joined : List (List ℕ) → List ℕ
digests_joined digests = flat_map (λ digest. digest) digests

unfoldable pub metainfo_front : List ℕ
metainfo_front = codes "d4:infod6:lengthi67108864e4:name8:load.bin12:piece lengthi1048576e6:pieces1280:"

unfoldable pub metainfo_back : List ℕ
metainfo_back = codes "e8:url-listl23:http://m0.test/load.bin23:http://m1.test/load.bin23:http://m2.test/load.binee"

unfoldable pub metainfo_by : List (List ℕ) → List ℕ
metainfo_by digests = metainfo_front ++ digests_joined digests ++ metainfo_back
