-- The lines of the text behind those of the analysis, which tell entries, accesses and levels.
use Rattle.std.specs.Prelude.{ℕ, List, ◌++◌, codes, slice_get}
use Rattle.std.specs.Option.{option_map_or}
use Rattle.std.specs.Fmt.{decimal}
use Rattle.exchange_model.specs.declared.entry.PointInfo.{PointInfo}
use Rattle.exchange_model.specs.declared.exchange.Exchange.{Exchange}
use Rattle.analysis_text.specs.Lines.{written}
use Rattle.conflicts_meaning.specs.declared.rows.Clash.{Clash}
use Rattle.conflicts_meaning.specs.declared.rows.Clash.TheVariants.{Above}
use Rattle.conflicts_meaning.specs.declared.rows.ClashRow.{ClashRow}
use Rattle.conflicts_meaning.specs.declared.rows.EntryPair.{EntryPair}
use Rattle.conflicts_meaning.specs.declared.rows.GivenAt.{GivenAt}

-- the line of the exchange text in which the statement at a point begins
abbrev pub line_at : Exchange → ℕ → ℕ
line_at x p = option_map_or (λ (i : PointInfo). i.line) (slice_get x.points p) 0

-- `AT e k POINT p LINE n`: the statement at the point gives what has number k of entry e
abbrev pub point_line : Exchange → ℕ → GivenAt → List ℕ
point_line x e r = codes "AT " ++ decimal e ++ codes " " ++ decimal r.number ++ codes " POINT "
    ++ decimal r.point ++ codes " LINE " ++ decimal (line_at x r.point)

-- the number of the later's access; nothing of a level
abbrev pub later_words : Clash → ℕ → List ℕ
later_words (Above l) n = codes ""
later_words c n = codes " " ++ decimal n

-- `CLASH i j k l`: access k of entry i and access l of entry j; `CLASH i j k` of a level
abbrev pub clash_line : EntryPair → ClashRow → List ℕ
clash_line p r = codes "CLASH " ++ decimal p.first ++ codes " " ++ decimal p.later ++ codes " "
    ++ decimal r.first ++ later_words r.clash r.later

-- both with their ends

abbrev pub point_text : Exchange → ℕ → GivenAt → List ℕ
point_text x e r = written (point_line x e r)

abbrev pub clash_text : EntryPair → ClashRow → List ℕ
clash_text p r = written (clash_line p r)

-- behind the analysis
abbrev pub first_line : List ℕ
first_line = written (codes "CONFLICTS 1")

abbrev pub last_line : List ℕ
last_line = written (codes "END CONFLICTS")

-- more than so many bytes are not told
abbrev pub limit_line : ℕ → List ℕ
limit_line most = written (codes "LIMIT " ++ decimal most)
