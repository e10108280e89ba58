-- The parts of an index that stand as they are in each.
use Rattle.std.specs.Prelude.{ℕ, List, ◌++◌, codes}

-- the style of an index, beside that of pictures
unfoldable pub index_style : List ℕ
index_style =
    codes "body{margin:0 auto;max-width:80rem;padding:.5rem;box-sizing:border-box}\n"
    ++ codes "body{font:1rem/1.4 sans-serif;color:var(--ink)}h1{font-size:1.2rem}h2{font-size:1rem}\n"
    ++ codes "h1,h2,p{margin:.3rem 0;overflow-wrap:anywhere}a{color:inherit;text-decoration:none}\n"
    ++ codes "ul{list-style:none;margin:0;padding:0;display:grid;gap:1rem}\n"
    ++ codes "ul{grid-template-columns:repeat(auto-fill,minmax(11rem,1fr))}\n"
    ++ codes "li{overflow-wrap:anywhere}span{white-space:nowrap}img{display:block;width:100%;aspect-ratio:616/560}\n"
    ++ codes ":root{--moved:#c2410c}@media(prefers-color-scheme:dark){:root{--moved:#fb923c}}\n"
    ++ codes ".late #age{font-weight:bold;color:var(--moved)}\n"

-- the script of an index: it takes the matches of a newer one
unfoldable pub index_script : List ℕ
index_script =
    codes "const named = name => document.getElementById(name);\n"
    ++ codes "const seconds = Number(document.body.dataset.seconds);\n"
    ++ codes "let told = named('matches').innerHTML;\n"
    ++ codes "function take(page) {\n"
    ++ codes "  const matches = page.getElementById('matches');\n"
    ++ codes "  if (!matches) return;\n"
    ++ codes "  came = Date.now();\n"
    ++ codes "  if (matches.innerHTML === told) return;\n"
    ++ codes "  told = matches.innerHTML;\n"
    ++ codes "  named('matches').innerHTML = told;\n"
    ++ codes "}\n"
