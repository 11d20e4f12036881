-- The printed text of a book, which crate `script` defines part by part, and that parsing it gives back its lines.
pub use Rattle.script.specs.Text.{script, text}
pub use Rattle.script.specs.Plain.{parse-text}
