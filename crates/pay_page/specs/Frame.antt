-- What stands around each page.
use Rattle.std.specs.Prelude.{ℕ, List, ◌++◌, codes}
use Rattle.pay_html.specs.Words.{escaped}

-- up to the first heading, which is the page's title too
unfoldable pub page_start : List ℕ → List ℕ
page_start title =
    codes "<!DOCTYPE html>\n<html lang=\"en\">\n<head>\n<meta charset=\"utf-8\">\n<meta name=\"viewport\" content=\"width=device-width, initial-scale=1\">\n<title>"
    ++ (escaped title
    ++ (codes "</title>\n<link rel=\"stylesheet\" href=\"/style.css\">\n</head>\n<body>\n<main>\n<h1>" ++ (escaped title ++ codes "</h1>\n")))

unfoldable pub page_end : List ℕ
page_end = codes "</main>\n</body>\n</html>\n"
