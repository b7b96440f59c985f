-- Answers of several numbers: a first one that says whether there is an answer, and 0 in all where there is none.
use Rattle.std.specs.Prelude.{Option, Some, None}
use Rattle.records.specs.declared.record.Extent.{Extent}
use Rattle.records.specs.declared.record.TagInfo.{TagInfo}
use Rattle.records.specs.declared.record.PieceList.{PieceList}
use Rattle.node.specs.declared.entry.YamlHashEntry.{YamlHashEntry}
use Rattle.quarto_yaml.specs.declared.source.FoundSpan.{FoundSpan}
use Rattle.quarto_yaml.specs.declared.source.FoundTag.{FoundTag}
use Rattle.quarto_yaml.specs.declared.source.FoundPieces.{FoundPieces}
use Rattle.quarto_yaml.specs.declared.source.FoundEntry.{FoundEntry}

abbrev pub found_span : Option Extent → FoundSpan
found_span None = record { present = 0; start = 0; end = 0 }
found_span (Some e) = record { present = 1; start = e.start; end = e.end }

abbrev pub found_tag : Option TagInfo → FoundTag
found_tag None = record { present = 0; start = 0; end = 0; suffix = 0; len = 0 }
found_tag (Some t) = record { present = 1; start = t.start; end = t.end; suffix = t.suffix; len = t.len }

abbrev pub found_pieces : Option PieceList → FoundPieces
found_pieces None = record { present = 0; first = 0; count = 0 }
found_pieces (Some l) = record { present = 1; first = l.first; count = l.count }

abbrev pub found_entry : Option YamlHashEntry → FoundEntry
found_entry None =
    record {
      present = 0;
      key = 0;
      value = 0;
      key_start = 0;
      key_end = 0;
      value_start = 0;
      value_end = 0;
      entry_start = 0;
      entry_end = 0;
    }
found_entry (Some e) =
    record {
      present = 1;
      key = e.key;
      value = e.value;
      key_start = e.key_span.start;
      key_end = e.key_span.end;
      value_start = e.value_span.start;
      value_end = e.value_span.end;
      entry_start = e.entry_span.start;
      entry_end = e.entry_span.end;
    }
