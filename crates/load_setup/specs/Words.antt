-- The word that asks for a load, and the words of its run.
use Rattle.std.specs.Prelude.{ℕ, List, [], ◌∷◌, ◌++◌, codes}
use Rattle.std.specs.Fmt.{decimal}

abbrev pub asking_word : ℕ → List ℕ
asking_word n = codes "--self-load=" ++ decimal n

-- eight connections, of which four are to one host at most, each for a mebibyte at least
unfoldable pub run_words : List (List ℕ)
run_words =
    codes "--split=8"
    ∷ codes "--max-connection-per-server=4"
    ∷ codes "--min-split-size=1M"
    ∷ codes "load.torrent"
    ∷ []
