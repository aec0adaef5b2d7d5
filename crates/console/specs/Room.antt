-- What a line says that goes onto the console's page.
--
-- In order: what is asked of what a line says, and of a line.
-- Assumes nothing.
use Rattle.std.specs.Prelude.{◌≡◌, List, ℕ, length}
use Rattle.console_lines.specs.declared.said.Said.{Said}
use Rattle.console_lines.specs.declared.lines.Line.{Line}
use Rattle.console_lines.specs.Reading.{Fits}
use Rattle.console_lines.specs.Lines.{Inside}

-- what is said, and its bytes
pub record Ready (said : Said) (bytes : List ℕ) : Type 0 where
  pub fits : Fits said
  pub bytes_room : length bytes ≡ 4096

-- the line that was taken, and the bytes that it stands in
pub record Taking (line : Line) (space : List ℕ) : Type 0 where
  pub inside : Inside space line
  pub held : length space ≡ 8192
