-- The page of a run: fixed text with its style, the run as JSON, the script that shows it.
use Rattle.std.specs.Prelude.{ℕ, List, ◌++◌}
use Rattle.ext_page.specs.Data.{run_text}
use Rattle.ext_page.specs.declared.markup.TheConstants.{BEFORE_STYLE, AFTER_STYLE, AFTER_DATA, AFTER_SCRIPT}
use Rattle.ext_page.specs.declared.run.RunData.{RunData}
use Rattle.ext_page.specs.declared.script.TheConstants.{SCRIPT}
use Rattle.ext_page.specs.declared.style.TheConstants.{STYLE}

unfoldable pub before_style : List ℕ
before_style = BEFORE_STYLE.now

unfoldable pub style : List ℕ
style = STYLE.now

unfoldable pub after_style : List ℕ
after_style = AFTER_STYLE.now

unfoldable pub after_data : List ℕ
after_data = AFTER_DATA.now

unfoldable pub script : List ℕ
script = SCRIPT.now

unfoldable pub after_script : List ℕ
after_script = AFTER_SCRIPT.now

unfoldable pub page_text : RunData → List ℕ
page_text run = before_style ++ (style ++ (after_style ++ (run_text run ++ (after_data ++ (script ++ after_script)))))
