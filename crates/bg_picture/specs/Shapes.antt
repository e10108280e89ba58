-- The shapes of pictures, and their style: texts that stand as they are in each SVG file, and once
-- in a page.
use Rattle.std.specs.Prelude.{ℕ, List, ◌++◌, codes}

-- the style of a picture, light and dark by the preference of its reader
unfoldable pub style : List ℕ
style =
    codes ":root{color-scheme:light dark;background:var(--page)}\n"
    ++ codes ":root{--page:#fff;--ink:#1d1d1b;--board:#f1e7d3;--pale:#dcc59b;--deep:#b08a5a}\n"
    ++ codes ":root{--rim:#6b5237;--bar:#6b5237}\n"
    ++ codes "@media(prefers-color-scheme:dark){:root{--page:#15171a;--ink:#ece8e1;--board:#2f2a25;--pale:#50453a}\n"
    ++ codes ":root{--deep:#7d6448;--rim:#8d7658;--bar:#453a30}}\n"
    ++ codes "text{font:20px sans-serif;text-anchor:middle;fill:var(--ink)}.left text{text-anchor:start}\n"
    ++ codes ".right text{text-anchor:end}\n"
    ++ codes ".x{fill:#1b2430;stroke:#f6f1e7;--mark:#f6f1e7}.o{fill:#fbf8f1;stroke:#1b2430;--mark:#1b2430}\n"
    ++ codes ".x text,.o text{font-weight:bold;fill:var(--mark);stroke:none}.pip{fill:var(--mark);stroke:none}\n"
    ++ codes ".cube{fill:#fff;stroke:#1b2430;stroke-width:2}.cube text{font-size:18px;fill:#1b2430;stroke:none}\n"
    ++ codes ".field{fill:var(--board);stroke:var(--rim);stroke-width:2}\n"
    ++ codes ".tag{fill:var(--page);stroke:var(--rim);stroke-width:2}.bar{fill:var(--bar)}.rim{fill:var(--rim)}\n"
    ++ codes ".pale{fill:var(--pale)}.deep{fill:var(--deep)}\n"

-- the shapes: the empty board; stacks of one to five checkers, from their top on; and around their
-- middles dice, the cube and the tag of an offer
unfoldable pub shapes : List ℕ
shapes =
    codes "<g id='board'><path class='field' d='M40 64h560v432h-560z'/><path class='bar' d='M280 65h40v430h-40z'/>\n"
    ++ codes "<path class='rim' d='M559 64h2v432h-2z'/>\n"
    ++ codes "<g id='points'><path class='pale' d='M40 65h40l-20 186zm80 0h40l-20 186zm80 0h40l-20 186z'/>\n"
    ++ codes "<path class='deep' d='M80 65h40l-20 186zm80 0h40l-20 186zm80 0h40l-20 186z'/>\n"
    ++ codes "<path class='pale' d='M320 65h40l-20 186zm80 0h40l-20 186zm80 0h40l-20 186z'/>\n"
    ++ codes "<path class='deep' d='M360 65h40l-20 186zm80 0h40l-20 186zm80 0h40l-20 186z'/></g>\n"
    ++ codes "<use href='#points' transform='rotate(180 300 280)'/>\n"
    ++ codes "<circle class='o' cx='582' cy='18' r='13'/><circle class='x' cx='582' cy='542' r='13'/></g>\n"
    ++ codes "<g id='c1'><circle cy='19' r='18'/></g>\n"
    ++ codes "<g id='c2'><circle cy='19' r='18'/><circle cy='57' r='18'/></g>\n"
    ++ codes "<g id='c3'><circle cy='19' r='18'/><circle cy='57' r='18'/><circle cy='95' r='18'/></g>\n"
    ++ codes "<g id='c4'><circle cy='19' r='18'/><circle cy='57' r='18'/><circle cy='95' r='18'/>\n"
    ++ codes "<circle cy='133' r='18'/></g>\n"
    ++ codes "<g id='c5'><circle cy='19' r='18'/><circle cy='57' r='18'/><circle cy='95' r='18'/>\n"
    ++ codes "<circle cy='133' r='18'/><circle cy='171' r='18'/></g>\n"
    ++ codes "<circle id='pip' class='pip' r='3.5'/><rect id='die' x='-18' y='-18' width='36' height='36' rx='7'/>\n"
    ++ codes "<g id='d1'><use href='#die'/><use href='#pip' x='0' y='0'/></g>\n"
    ++ codes "<g id='d2'><use href='#die'/><use href='#pip' x='-9' y='-9'/><use href='#pip' x='9' y='9'/></g>\n"
    ++ codes "<g id='d3'><use href='#die'/><use href='#pip' x='-9' y='-9'/><use href='#pip' x='0' y='0'/>\n"
    ++ codes "<use href='#pip' x='9' y='9'/></g>\n"
    ++ codes "<g id='d4'><use href='#die'/><use href='#pip' x='-9' y='-9'/><use href='#pip' x='9' y='-9'/>\n"
    ++ codes "<use href='#pip' x='-9' y='9'/><use href='#pip' x='9' y='9'/></g>\n"
    ++ codes "<g id='d5'><use href='#die'/><use href='#pip' x='-9' y='-9'/><use href='#pip' x='9' y='-9'/>\n"
    ++ codes "<use href='#pip' x='0' y='0'/><use href='#pip' x='-9' y='9'/><use href='#pip' x='9' y='9'/></g>\n"
    ++ codes "<g id='d6'><use href='#die'/><use href='#pip' x='-9' y='-9'/><use href='#pip' x='9' y='-9'/>\n"
    ++ codes "<use href='#pip' x='-9' y='0'/><use href='#pip' x='9' y='0'/><use href='#pip' x='-9' y='9'/>\n"
    ++ codes "<use href='#pip' x='9' y='9'/></g>\n"
    ++ codes "<rect id='cube' class='cube' x='-19' y='-19' width='38' height='38' rx='6'/>\n"
    ++ codes "<rect id='tag' class='tag' x='-85' y='-20' width='170' height='40' rx='8'/>\n"
