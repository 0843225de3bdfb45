-- The text of a certificate, or the first line of a text that is not as stated.
--
-- The lines of a text stand in a list, each with its LF, and behind them what follows the last LF,
-- which is nothing in a text that is ended well. So a text that breaks off, a last line without its
-- LF and bytes after the last line are all at fault at a line: the one that no certificate has at
-- its place behind the lines before it.
use Rattle.std.specs.Prelude.{◌≡◌, ℕ, ◌-◌, List, [], ◌∷◌, ◌++◌, map, take, Result, Ok, Err}
use Rattle.certificate_text.specs.declared.certificate.Certificate.{Certificate}
use Rattle.certificate_text.specs.declared.fault.TextFault.{TextFault}
use Rattle.certificate_text.specs.declared.fault.TextFault.TheVariants.{BadText, Memory}
use Rattle.certificate_text.specs.declared.version.Version.{Version}
use Rattle.certificate_text.specs.Text.{CanTell, CertificateFits, certificate_lines, text_in}
use Rattle.text_lines.specs.Lines.{ended, lines_in}

-- the text is that of the certificate, in one of the versions that can tell it
pub record IsTextOf (text : List ℕ) (c : Certificate) : Type 0 where
  pub version : Version
  pub tells : CanTell version c.shape.references
  pub fits : CertificateFits c
  pub so : text ≡ text_in version c

-- these lines, each with its end, as they stand in a text with nothing after them
abbrev pub whole : List (List ℕ) → List (List ℕ)
whole lines = map ended lines ++ [] ∷ []

-- these are the first lines of the text of some certificate
pub record BeginText (lines : List (List ℕ)) : Type 0 where
  pub version : Version
  pub certificate : Certificate
  pub tells : CanTell version certificate.shape.references
  pub fits : CertificateFits certificate
  pub rest : List (List ℕ)
  pub so : lines ++ rest ≡ whole (certificate_lines version certificate)

-- the line l, from 1, is the first that is not as stated: the lines before it begin some text of a
-- certificate, and no longer with it
pub record HasBadLine (text : List ℕ) (l : ℕ) : Type 0 where
  pub before : BeginText (take (l - 1) (lines_in text))
  pub here : BeginText (take l (lines_in text)) → ⊥

-- what an answer tells of a text
abbrev pub TellsCertificate : List ℕ → Result Certificate TextFault → Type 0
TellsCertificate text (Ok c) = IsTextOf text c
TellsCertificate text (Err (BadText l)) = HasBadLine text l
TellsCertificate text (Err Memory) = Unit {0}

-- the answer is this one, or memory was refused
abbrev pub IsUnlessMemory : Result Certificate TextFault → Result Certificate TextFault → Type 0
IsUnlessMemory (Err Memory) wanted = Unit {0}
IsUnlessMemory (Ok c) wanted = Ok c ≡ wanted
IsUnlessMemory (Err (BadText l)) wanted = Err (BadText l) ≡ wanted
